use Rattle.std.proofs.Common.{◌∙◌, sym}
use Rattle.hack_operators.specs.Seen.{class_seen, sign_seen}
use Rattle.hack_walk.specs.Checks.{setting_of}
use Rattle.hack_operators.specs.inside.Calls.{signed}
use Rattle.hack_operators.proofs.Operating.{error_alone, none_alone, type_alone}
use Rattle.hack_operators.proofs.Stepping.{steps_as}
use Rattle.hack_operators.proofs.checks.signed.Goals as goal

pub returns-then-is_error : goal.returns-then-is_error
returns-then-is_error c =
    error_alone c.args.at (sign_seen c.args.sign) c.args.operand.now (class_seen c.args.class) (setting_of c.args.setting.now) c.args.state.now
    (sym c.if-is_error.true ∙ c.is_error.ensures)

pub returns-in-Some : goal.returns-in-Some
returns-in-Some c =
    type_alone c.args.at (sign_seen c.args.sign) c.args.operand.now (class_seen c.args.class) (setting_of c.args.setting.now) c.args.state.now
    (sym c.if-is_error.false ∙ c.is_error.ensures) c.in-Some.ty c.in-Some.ensures

pub returns-in-None : goal.returns-in-None
returns-in-None c =
    steps_as (signed c.args.at (sign_seen c.args.sign) c.args.operand.now (class_seen c.args.class)) c.refuse_alone.result c.refuse_alone.ensures
    (none_alone c.args.at (sign_seen c.args.sign) c.args.operand.now (class_seen c.args.class) (setting_of c.args.setting.now) c.args.state.now
    (sym c.if-is_error.false ∙ c.is_error.ensures) c.in-None.ensures)
