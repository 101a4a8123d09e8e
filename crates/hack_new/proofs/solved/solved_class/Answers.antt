use Rattle.hack_decls.specs.DeclState.{Map}
use Rattle.hack_decls.specs.Names.{class_symbol}
use Rattle.hack_rules.specs.News.{solved_class}
use Rattle.hack_sub.specs.declared.scope.Scope.{Scope}
use Rattle.hack_walk.specs.Checks.{setting_of}
use Rattle.hack_walk.specs.WalkLaws.{reads_walks, walks_as}
use Rattle.hack_new.specs.inside.Rows.{constructor_in}
use Rattle.hack_new.specs.inside.Solving.{made_for, solved_row}
use Rattle.hack_new.proofs.Making.{row_law}
use Rattle.hack_new.proofs.solved.solved_class.Goals as goal

pub returns : goal.returns
unfolding solved_row
returns g c =
    let at = c.args.at in let name = c.args.name in let params = c.args.params.now in let given = c.args.given.now in let s = c.args.state.now in
    walks_as (solved_class at name params given) c.made_for-made.result
    (reads_walks {here = s} (λ (m : Map) (scope : Scope). constructor_in (m (class_symbol name))) (made_for at name params given) c.made_for-made.result
    c.in_ok-found.ensures c.made_for-made.ensures
    (λ symbols around n. n.0) (λ symbols n h. (h, n.0, n.1, n.2)) (λ symbols b n h k. k))
    (λ m. row_law at name params given (setting_of c.args.setting.now) m s)
