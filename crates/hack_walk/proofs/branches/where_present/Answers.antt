use Rattle.std.proofs.Common.{◌∙◌, Some, sym, subst}
use Rattle.hack_decls.specs.AskLaws.{unasked}
use Rattle.hack_infer.specs.WithoutNull.{without_null}
use Rattle.hack_walk.specs.Checks.{VariablesIn}
use Rattle.hack_walk.specs.WalkLaws.{restated}
use Rattle.hack_walk.proofs.Subjects.{in_subject, refined_not, refined_to}
use Rattle.hack_walk.proofs.branches.where_present.Goals as goal

pub returns-in-Some : goal.returns-in-Some
returns-in-Some g c =
    let here = c.args.here.now in let name = c.args.name in let own = c.in-Some.own.now in
    restated c.put_present.result c.put_present.ensures (λ m a e. e ∙ refined_to here (Some name) (without_null m) own c.in-Some.ensures)
    (λ symbols n. (n, in_subject symbols here (Some name) own c.in-Some.ensures n)) (λ symbols a n given. given)

pub returns-in_ok-copy-in-None : goal.returns-in_ok-copy-in-None
returns-in_ok-copy-in-None g c =
    let here = c.args.here.now in let name = c.args.name in
    unasked _ _ (λ m. c.in_ok-copy-in-None.ensures ∙ refined_not here (Some name) (without_null m) c.in-None.ensures)
    (λ symbols n. subst (VariablesIn symbols) (sym c.in_ok-copy-in-None.ensures) n)
