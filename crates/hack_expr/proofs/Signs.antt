-- The walks of operators before their operand.
use Rattle.std.proofs.Common.{◌≡◌, Some, ap}
use Rattle.hack_operators.specs.Seen.{sign_before}
use Rattle.hack_rules.specs.Chains.{prefix_value, sign_row}
use Rattle.hack_rules.specs.Meanings.{Meaning}
use Rattle.hack_rules.specs.Operators as rules
use Rattle.hack_tree.specs.declared.expression.PrefixOperator.{PrefixOperator}
use Rattle.hack_tree.specs.declared.expression.PrefixOperator.TheVariants as operator
use Rattle.hack_types.specs.declared.place.Place.{Place}

-- one that is a sign
pub by_sign : (at : Place) (o : PrefixOperator) (s : rules.Sign) (m : Meaning) → sign_before o ≡ Some s → (prefix_value at o m).walk ≡ sign_row at s m
by_sign at operator.Minus s m is = ap (λ (x : rules.Sign). sign_row at x m) cc
by_sign at operator.Plus s m is = ap (λ (x : rules.Sign). sign_row at x m) cc
by_sign at operator.BitNot s m is = ap (λ (x : rules.Sign). sign_row at x m) cc
by_sign at operator.Not s m is = absurd cc
by_sign at operator.Increment s m is = absurd cc
by_sign at operator.Decrement s m is = absurd cc
