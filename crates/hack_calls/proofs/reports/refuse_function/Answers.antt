use Rattle.std.proofs.Common.{◌∙◌, ◌++◌, ◌∷◌, [], ap}
use Rattle.hack_types.specs.declared.diag.Diag.{Diag}
use Rattle.hack_diag.specs.Messages.{unbound_function}
use Rattle.hack_walk.specs.WalkLaws.{step_refuse}
use Rattle.hack_calls.proofs.reports.refuse_function.Goals as goal

pub returns : goal.returns
returns c =
    step_refuse c.args.state.now c.report.new.self c.args.at (unbound_function c.args.name) c.in_ok-report.ensures.variables
    (c.in_ok-report.ensures.found ∙ ap (λ (diag : Diag). c.args.state.now.found ++ diag ∷ []) c.in_ok-diag.ensures)
