use Rattle.std.proofs.Common.{◌∙◌, ◌++◌, ◌∷◌, [], ap}
use Rattle.hack_types.specs.declared.diag.Diag.{Diag}
use Rattle.hack_diag.specs.Messages.{not_assignable}
use Rattle.hack_walk.specs.WalkLaws.{step_report}
use Rattle.hack_targets.proofs.reports.report_assigned.Goals as goal

pub returns : goal.returns
returns c =
    step_report c.args.state.now c.report.new.self c.args.at not_assignable c.in_ok-report.ensures.variables
    (c.in_ok-report.ensures.found ∙ ap (λ (diag : Diag). c.args.state.now.found ++ diag ∷ []) c.in_ok-diag.ensures)
