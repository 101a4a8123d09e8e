use Rattle.std.proofs.Common.{◌∙◌, ◌++◌, ◌∷◌, [], ap, sym}
use Rattle.hack_types.specs.Substituted.{limited}
use Rattle.hack_types.specs.declared.diag.Diag.{Diag}
use Rattle.hack_diag.specs.Messages.{not_iterated}
use Rattle.hack_rules.specs.Loops.{values_by}
use Rattle.hack_types.specs.declared.hack_type.HackType.TheVariants as type
use Rattle.hack_walk.specs.NamesKept.{in_limited}
use Rattle.hack_walk.specs.WalkLaws.{of_step}
use Rattle.hack_flow.proofs.Foreaching.{by_one, in_one_of, of_mixed, walks_given, steps_unknown, values_one}
use Rattle.hack_flow.proofs.foreach_types.values_by.Goals as goal

pub returns-in_ok-report-in-None : goal.returns-in_ok-report-in-None
returns-in_ok-report-in-None g c =
    let at = c.args.at in let head = c.args.head.now in let given = c.args.given.now in
    of_step _ (steps_unknown (values_by at head given) c.args.state.now c.report.new.self at (not_iterated head)
    (values_one at head given ∙ ap (by_one at head) (sym c.in-None.ensures)) c.in_ok-report-in-None.ensures.variables
    (c.in_ok-report-in-None.ensures.found ∙ ap (λ (diag : Diag). c.args.state.now.found ++ diag ∷ []) c.in_ok-diag-in-None.ensures))

pub returns-in_ok-mixed_and-in-Some : goal.returns-in_ok-mixed_and-in-Some
returns-in_ok-mixed_and-in-Some g c =
    let at = c.args.at in let head = c.args.head.now in let given = c.args.given.now in let value = c.in-Some.value.now in
    walks_given (values_by at head given) _ c.args.state.now (type.Mixed, limited value) _
    (values_one at head given ∙ ap (by_one at head) (sym c.in-Some.ensures)) c.in_ok-mixed_and-in-Some.ensures
    (λ symbols n. (of_mixed symbols, in_limited symbols value (in_one_of symbols value given c.in-Some.ensures n)))
