-- The classes of operands, and what operators give (docs/language.md, Typing expressions, Operators).
use Rattle.std.specs.Prelude.{ℕ, ◌&&◌, ◌||◌, Bool, true, false, if◌then◌else◌, Option, Some, None, List, codes}
use Rattle.hack_types.specs.declared.hack_type.HackType.{HackType, out-HackType}
use Rattle.hack_types.specs.declared.hack_type.HackType.TheOpen.{HackType-F}
use Rattle.hack_types.specs.declared.hack_type.HackType.TheVariants as type
use Rattle.hack_types.specs.declared.place.Place.{Place}
use Rattle.hack_tree.specs.declared.expression.AssignOperator.{AssignOperator}
use Rattle.hack_tree.specs.declared.expression.AssignOperator.TheVariants as assign
use Rattle.hack_tree.specs.declared.expression.BinaryOperator.{BinaryOperator}
use Rattle.hack_tree.specs.declared.expression.BinaryOperator.TheVariants as binary
use Rattle.hack_decls.specs.DeclState.{Map}
use Rattle.hack_sub.specs.IsBelow.{is_below}
use Rattle.hack_sub.specs.Sub.{most_height}
use Rattle.hack_sub.specs.declared.scope.Scope.{Scope}
use Rattle.hack_diag.specs.Messages.{operator_refuses, sign_refuses}
use Rattle.hack_rules.specs.Walks.{Walk, ◌>>=◌, pure, reads, refuse}

-- what operators tell apart
pub data OperandClass : Type 0 where
  error int float num string bool arraykey other : OperandClass

-- `_` and `nothing`
abbrev pub is_error_by : HackType-F HackType → Bool
is_error_by HackType-F.Any = true
is_error_by HackType-F.Nothing = true
is_error_by _ = false

-- `_` and `nothing` themselves are the error; else the first of these that the type is below
unfoldable pub class_of : Map → Scope → HackType → OperandClass
class_of map scope ty =
    if is_error_by (out-HackType ty) then error
    else (if is_below map scope most_height ty type.Int then int
    else (if is_below map scope most_height ty type.Float then float
    else (if is_below map scope most_height ty type.Num then num
    else (if is_below map scope most_height ty type.Str then string
    else (if is_below map scope most_height ty type.Bool then bool
    else (if is_below map scope most_height ty type.Arraykey then arraykey else other))))))

-- an error operand
abbrev pub is_error : OperandClass → Bool
is_error error = true
is_error _ = false

-- an int
abbrev pub is_int : OperandClass → Bool
is_int int = true
is_int _ = false

-- a float
abbrev pub is_float : OperandClass → Bool
is_float float = true
is_float _ = false

-- a string
abbrev pub is_string : OperandClass → Bool
is_string string = true
is_string _ = false

-- an int, a float or a num
abbrev pub is_number : OperandClass → Bool
is_number int = true
is_number float = true
is_number num = true
is_number _ = false

-- what `.` takes
abbrev pub is_text : OperandClass → Bool
is_text string = true
is_text arraykey = true
is_text class = is_number class

-- the operators with a table, `**` and those of assignments among them
pub data Operation : Type 0 where
  add subtract multiply divide power remainder bit_and bit_or bit_xor concat less less_equal greater greater_equal spaceship : Operation

-- a type, where the classes fit
abbrev pub given_if : Bool → HackType → Option HackType
given_if fits ty = if fits then Some ty else None

-- `+ - *`: int for two ints, float if one is float, else num
abbrev pub sum_of : OperandClass → OperandClass → Option HackType
sum_of left right =
    given_if (is_number left && is_number right)
    (if is_int left && is_int right then type.Int else (if is_float left || is_float right then type.Float else type.Num))

-- `/ **`: float if one is float, else num
abbrev pub quotient_of : OperandClass → OperandClass → Option HackType
quotient_of left right = given_if (is_number left && is_number right) (if is_float left || is_float right then type.Float else type.Num)

-- `% & | ^`: ints
abbrev pub bits_of : OperandClass → OperandClass → Option HackType
bits_of left right = given_if (is_int left && is_int right) type.Int

-- `.`: numbers, strings and arraykeys
abbrev pub text_of : OperandClass → OperandClass → Option HackType
text_of left right = given_if (is_text left && is_text right) type.Str

-- `< <= > >= <=>`: both numbers, or both strings
abbrev pub order_of : HackType → OperandClass → OperandClass → Option HackType
order_of ty left right = given_if ((is_number left && is_number right) || (is_string left && is_string right)) ty

-- what an operator gives for two classes, where it takes them
unfoldable pub result_of : Operation → OperandClass → OperandClass → Option HackType
result_of add = sum_of
result_of subtract = sum_of
result_of multiply = sum_of
result_of divide = quotient_of
result_of power = quotient_of
result_of remainder = bits_of
result_of bit_and = bits_of
result_of bit_or = bits_of
result_of bit_xor = bits_of
result_of concat = text_of
result_of less = order_of type.Bool
result_of less_equal = order_of type.Bool
result_of greater = order_of type.Bool
result_of greater_equal = order_of type.Bool
result_of spaceship = order_of type.Int

-- the operator as 4012 shows it
abbrev pub operation_text : Operation → List ℕ
operation_text add = codes "+"
operation_text subtract = codes "-"
operation_text multiply = codes "*"
operation_text divide = codes "/"
operation_text power = codes "**"
operation_text remainder = codes "%"
operation_text bit_and = codes "&"
operation_text bit_or = codes "|"
operation_text bit_xor = codes "^"
operation_text concat = codes "."
operation_text less = codes "<"
operation_text less_equal = codes "<="
operation_text greater = codes ">"
operation_text greater_equal = codes ">="
operation_text spaceship = codes "<=>"

-- what the table has, else 4012 and `_`
abbrev pub given_or : Place → Operation → HackType → HackType → Option HackType → Walk HackType
given_or at operation left right (Some ty) = pure ty
given_or at operation left right None = refuse at (operator_refuses (operation_text operation) left right)

-- an error operand gives `_`; else what the table has, and where it has nothing 4012 and `_`
unfoldable pub operate : Place → Operation → HackType → HackType → Walk HackType
operate at operation left right = do
  first ← reads (λ map scope. class_of map scope left)
  second ← reads (λ map scope. class_of map scope right)
  if is_error first || is_error second then pure type.Any else given_or at operation left right (result_of operation first second)

-- the operators before an operand that have a table
pub data Sign : Type 0 where
  minus plus complement : Sign

-- the type of a number's class
abbrev pub number_type : OperandClass → Option HackType
number_type int = Some type.Int
number_type float = Some type.Float
number_type num = Some type.Num
number_type _ = None

-- `-` and `+` give a number's class, and `~` an int for an int
unfoldable pub sign_of : Sign → OperandClass → Option HackType
sign_of minus class = number_type class
sign_of plus class = number_type class
sign_of complement class = given_if (is_int class) type.Int

-- the operator as 4012 shows it
abbrev pub sign_text : Sign → List ℕ
sign_text minus = codes "-"
sign_text plus = codes "+"
sign_text complement = codes "~"

-- what the table has, else 4012 and `_`
abbrev pub signed_or : Place → Sign → HackType → Option HackType → Walk HackType
signed_or at sign operand (Some ty) = pure ty
signed_or at sign operand None = refuse at (sign_refuses (sign_text sign) operand)

-- an error operand gives `_`; else what the table has
unfoldable pub operate_alone : Place → Sign → HackType → Walk HackType
operate_alone at sign operand = do
  class ← reads (λ map scope. class_of map scope operand)
  if is_error class then pure type.Any else signed_or at sign operand (sign_of sign class)

-- the operation of an operator between two operands, where it has one
abbrev pub operation_of : BinaryOperator → Option Operation
operation_of binary.BitOr = Some bit_or
operation_of binary.BitXor = Some bit_xor
operation_of binary.BitAnd = Some bit_and
operation_of binary.Less = Some less
operation_of binary.LessEqual = Some less_equal
operation_of binary.Greater = Some greater
operation_of binary.GreaterEqual = Some greater_equal
operation_of binary.Spaceship = Some spaceship
operation_of binary.Add = Some add
operation_of binary.Subtract = Some subtract
operation_of binary.Concat = Some concat
operation_of binary.Multiply = Some multiply
operation_of binary.Divide = Some divide
operation_of binary.Remainder = Some remainder
operation_of _ = None

-- that of an assignment's operator, where it has one
abbrev pub assigning : AssignOperator → Option Operation
assigning assign.Add = Some add
assigning assign.Subtract = Some subtract
assigning assign.Multiply = Some multiply
assigning assign.Divide = Some divide
assigning assign.Remainder = Some remainder
assigning assign.Concat = Some concat
assigning assign.BitAnd = Some bit_and
assigning assign.BitOr = Some bit_or
assigning assign.BitXor = Some bit_xor
assigning assign.Power = Some power
assigning _ = None
