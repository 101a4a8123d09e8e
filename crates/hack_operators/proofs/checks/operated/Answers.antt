use Rattle.std.proofs.Common.{◌∙◌, sym}
use Rattle.hack_operators.specs.Seen.{class_seen, operation_seen}
use Rattle.hack_walk.specs.Checks.{setting_of}
use Rattle.hack_operators.specs.inside.Calls.{operated}
use Rattle.hack_operators.proofs.Operating.{error_given, none_given, type_given}
use Rattle.hack_operators.proofs.Stepping.{steps_as}
use Rattle.hack_operators.proofs.checks.operated.Goals as goal

pub returns-then-any_error : goal.returns-then-any_error
returns-then-any_error c =
    error_given c.args.at (operation_seen c.args.operation) c.args.left.now c.args.right.now (class_seen c.args.first) (class_seen c.args.second)
    (setting_of c.args.setting.now) c.args.state.now (sym c.if-any_error.true ∙ c.any_error.ensures)

pub returns-in-Some : goal.returns-in-Some
returns-in-Some c =
    type_given c.args.at (operation_seen c.args.operation) c.args.left.now c.args.right.now (class_seen c.args.first) (class_seen c.args.second)
    (setting_of c.args.setting.now) c.args.state.now (sym c.if-any_error.false ∙ c.any_error.ensures) c.in-Some.ty c.in-Some.ensures

pub returns-in-None : goal.returns-in-None
returns-in-None c =
    steps_as (operated c.args.at (operation_seen c.args.operation) c.args.left.now c.args.right.now (class_seen c.args.first) (class_seen c.args.second)) c.refuse.result c.refuse.ensures
    (none_given c.args.at (operation_seen c.args.operation) c.args.left.now c.args.right.now (class_seen c.args.first) (class_seen c.args.second)
    (setting_of c.args.setting.now) c.args.state.now (sym c.if-any_error.false ∙ c.any_error.ensures) c.in-None.ensures)
