-- The classes, the operators and the signs of the code, as the definitions have them (docs/language.md, Typing expressions, Operators).
use Rattle.std.specs.Prelude.{Option, Some, None}
use Rattle.hack_tree.specs.declared.expression.PrefixOperator.{PrefixOperator}
use Rattle.hack_tree.specs.declared.expression.PrefixOperator.TheVariants as prefix
use Rattle.hack_rules.specs.Operators as rules
use Rattle.hack_operators.specs.declared.class.OperandClass.{OperandClass}
use Rattle.hack_operators.specs.declared.class.OperandClass.TheVariants as class
use Rattle.hack_operators.specs.declared.operation.Operation.{Operation}
use Rattle.hack_operators.specs.declared.operation.Operation.TheVariants as operation
use Rattle.hack_operators.specs.declared.sign.Sign.{Sign}
use Rattle.hack_operators.specs.declared.sign.Sign.TheVariants as sign

abbrev pub class_seen : OperandClass → rules.OperandClass
class_seen class.Error = rules.error
class_seen class.Int = rules.int
class_seen class.Float = rules.float
class_seen class.Num = rules.num
class_seen class.Str = rules.string
class_seen class.Bool = rules.bool
class_seen class.Arraykey = rules.arraykey
class_seen class.Other = rules.other

abbrev pub operation_seen : Operation → rules.Operation
operation_seen operation.Add = rules.add
operation_seen operation.Subtract = rules.subtract
operation_seen operation.Multiply = rules.multiply
operation_seen operation.Divide = rules.divide
operation_seen operation.Power = rules.power
operation_seen operation.Remainder = rules.remainder
operation_seen operation.BitAnd = rules.bit_and
operation_seen operation.BitOr = rules.bit_or
operation_seen operation.BitXor = rules.bit_xor
operation_seen operation.Concat = rules.concat
operation_seen operation.Less = rules.less
operation_seen operation.LessEqual = rules.less_equal
operation_seen operation.Greater = rules.greater
operation_seen operation.GreaterEqual = rules.greater_equal
operation_seen operation.Spaceship = rules.spaceship

abbrev pub sign_seen : Sign → rules.Sign
sign_seen sign.Minus = rules.minus
sign_seen sign.Plus = rules.plus
sign_seen sign.Complement = rules.complement

-- the sign that an operator before an operand is, where it has a table
abbrev pub sign_before : PrefixOperator → Option rules.Sign
sign_before prefix.Minus = Some rules.minus
sign_before prefix.Plus = Some rules.plus
sign_before prefix.BitNot = Some rules.complement
sign_before _ = None
