-- What the calls of the crate say to each other.
use Rattle.std.specs.Prelude.{◌||◌, if◌then◌else◌}
use Rattle.hack_types.specs.declared.hack_type.HackType.{HackType}
use Rattle.hack_types.specs.declared.hack_type.HackType.TheVariants.{Any}
use Rattle.hack_types.specs.declared.place.Place.{Place}
use Rattle.hack_rules.specs.Operators.{OperandClass, Operation, Sign, given_or, is_error, result_of, sign_of, signed_or}
use Rattle.hack_rules.specs.Walks.{Walk, pure}

-- what an operator does once the classes of its operands are known
abbrev pub operated : Place → Operation → HackType → HackType → OperandClass → OperandClass → Walk HackType
operated at operation left right first second =
    if is_error first || is_error second then pure Any else given_or at operation left right (result_of operation first second)

-- and a sign
abbrev pub signed : Place → Sign → HackType → OperandClass → Walk HackType
signed at sign operand class = if is_error class then pure Any else signed_or at sign operand (sign_of sign class)
