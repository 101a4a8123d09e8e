use Rattle.std.proofs.Common.{Ok}
use Rattle.hack_decls.specs.Names.{class_symbol}
use Rattle.hack_walk.specs.WalkLaws.{of_step, reads_walks}
use Rattle.hack_members.specs.Wanting.{tag_of, wanted_of}
use Rattle.hack_members.specs.inside.Rows.{case_of, case_or, is_case}
use Rattle.hack_members.proofs.cases.case_of.Goals as goal

pub returns : goal.returns
unfolding case_of
returns g c =
    let at = c.args.at in let wanted = c.args.wanted.now in
    reads_walks (λ map scope. is_case (tag_of wanted.sought) wanted.name (map (class_symbol c.args.name))) (λ is. case_or at (wanted_of at wanted) c.args.head.now is) (Ok _) c.in_ok-is_case.ensures
    (of_step _ c.in_ok-case_or.ensures) (λ symbols around n. n.0) (λ symbols n g. n.1) (λ symbols b n g h. h)
