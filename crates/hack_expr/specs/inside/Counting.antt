-- Operators before their operand that count (docs/language.md, Typing expressions, Assignment).
use Rattle.std.specs.Prelude.{Option, Some, None}
use Rattle.hack_rules.specs.Operators.{Operation, add, subtract}
use Rattle.hack_tree.specs.declared.expression.PrefixOperator.{PrefixOperator}
use Rattle.hack_tree.specs.declared.expression.PrefixOperator.TheVariants as prefix

-- what `++` and `--` do with an int
abbrev pub counting : PrefixOperator → Option Operation
counting prefix.Increment = Some add
counting prefix.Decrement = Some subtract
counting _ = None
