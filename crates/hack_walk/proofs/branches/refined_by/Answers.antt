use Rattle.std.proofs.Common.{◌∙◌, sym, subst}
use Rattle.hack_decls.specs.AskLaws.{unasked}
use Rattle.hack_walk.specs.Checks.{VariablesIn}
use Rattle.hack_walk.specs.WalkLaws.{restated}
use Rattle.hack_walk.specs.inside.Calls.{where_by}
use Rattle.hack_walk.proofs.Subjects.{in_subject, refined_not, refined_to}
use Rattle.hack_walk.proofs.branches.refined_by.Goals as goal

pub returns-in-Some : goal.returns-in-Some
returns-in-Some g c =
    let scope = c.args.scope.now in let here = c.args.here.now in let subject = c.args.subject in let T = c.args.tested.now in
    let own = c.in-Some.own.now in
    restated c.put_refined.result c.put_refined.ensures (λ m a e. e ∙ refined_to here subject (where_by c.args.outcome m scope T) own c.in-Some.ensures)
    (λ symbols n. record { test = n; own = in_subject symbols here subject own c.in-Some.ensures n.types }) (λ symbols a n given. given)

pub returns-in_ok-copy-in-None : goal.returns-in_ok-copy-in-None
returns-in_ok-copy-in-None g c =
    let scope = c.args.scope.now in let here = c.args.here.now in let subject = c.args.subject in let T = c.args.tested.now in
    unasked _ _ (λ m. c.in_ok-copy-in-None.ensures ∙ refined_not here subject (where_by c.args.outcome m scope T) c.in-None.ensures)
    (λ symbols n. subst (VariablesIn symbols) (sym c.in_ok-copy-in-None.ensures) n.types)
