use Rattle.std.proofs.Common.{◌∙◌, ◌++◌, ◌∷◌, [], ap}
use Rattle.hack_types.specs.declared.diag.Diag.{Diag}
use Rattle.hack_flow.proofs.Ending.{step_deep}
use Rattle.hack_flow.proofs.passes.too_deep.Goals as goal

pub returns : goal.returns
returns c =
    step_deep c.args.state.now c.report.new.self c.args.at c.in_ok-report.ensures.variables
    (c.in_ok-report.ensures.found ∙ ap (λ (diag : Diag). c.args.state.now.found ++ diag ∷ []) c.in_ok-diag.ensures)
