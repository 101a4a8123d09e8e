use Rattle.std.proofs.Common.{◌∙◌, ◌++◌, ◌∷◌, [], ap, refl}
use Rattle.hack_types.specs.declared.diag.Diag.{Diag}
use Rattle.hack_diag.specs.Messages.{may_be_null}
use Rattle.hack_rules.specs.Loops.{null_types}
use Rattle.hack_flow.proofs.Foreaching.{steps_unknown}
use Rattle.hack_flow.proofs.foreach_types.null_types.Goals as goal

pub returns : goal.returns
unfolding null_types
returns c =
    steps_unknown (null_types c.args.at) c.args.state.now c.report.new.self c.args.at may_be_null refl c.in_ok-report.ensures.variables
    (c.in_ok-report.ensures.found ∙ ap (λ (diag : Diag). c.args.state.now.found ++ diag ∷ []) c.in_ok-diag.ensures)
