use Rattle.std.proofs.Common.{◌∙◌, ◌++◌, ◌∷◌, [], ap, not}
use Rattle.hack_types.specs.declared.diag.Diag.{Diag}
use Rattle.hack_diag.specs.Messages.{field_twice}
use Rattle.hack_walk.specs.WalkLaws.{step_unless_not, step_unless_so}
use Rattle.hack_values.proofs.shapes.expect_new.Goals as goal

pub returns-then-not-is_given : goal.returns-then-not-is_given
returns-then-not-is_given c = step_unless_so c.args.state.now (not c.args.is_given) c.args.at (field_twice c.args.key) (ap not c.if-not-is_given.true)

pub returns : goal.returns
returns c =
    step_unless_not c.args.state.now c.report.new.self (not c.args.is_given) c.args.at (field_twice c.args.key) (ap not c.if-not-is_given.false) c.in_ok-report.ensures.variables
    (c.in_ok-report.ensures.found ∙ ap (λ (diag : Diag). c.args.state.now.found ++ diag ∷ []) c.in_ok-diag.ensures)
