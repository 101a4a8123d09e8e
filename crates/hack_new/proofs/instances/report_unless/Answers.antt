use Rattle.std.proofs.Common.{◌∙◌, ◌++◌, ◌∷◌, [], ap}
use Rattle.hack_types.specs.declared.diag.Diag.{Diag}
use Rattle.hack_diag.specs.Messages.{not_instantiable}
use Rattle.hack_walk.specs.WalkLaws.{step_unless_not, step_unless_so}
use Rattle.hack_new.proofs.instances.report_unless.Goals as goal

pub returns-then-fits : goal.returns-then-fits
returns-then-fits c = step_unless_so c.args.state.now c.args.fits c.args.at (not_instantiable c.args.name) c.if-fits.true

pub returns : goal.returns
returns c =
    step_unless_not c.args.state.now c.report.new.self c.args.fits c.args.at (not_instantiable c.args.name) c.if-fits.false c.in_ok-report.ensures.variables
    (c.in_ok-report.ensures.found ∙ ap (λ (diag : Diag). c.args.state.now.found ++ diag ∷ []) c.in_ok-diag.ensures)
