-- How far a level is from the tightest, and what is read at it.
use Rattle.std.proofs.Common.{◌≡◌, ℕ, ◌-◌, ◌*◌, refl}
use Rattle.hack_tree.specs.declared.expression.Expr.{Expr}
use Rattle.hack_parse_expr.specs.declared.rows.Level.{Level}
use Rattle.hack_parse_expr.specs.declared.rows.Level.TheVariants as levels
use Rattle.hack_parse_expr.specs.declared.rows.Nested.{Nested}
use Rattle.hack_parse_expr.specs.Decides.{rank}
use Rattle.hack_parse_expr.specs.Parsers.{Parser}
use Rattle.hack_parse_expr.specs.Expressions.{level, operand, at_level, coalesce, logical_or, logical_and, bit_or, bit_xor, bit_and, equality, relation, sum, product}

-- three calls for each level that isn't looser
abbrev pub calls_left : Level → ℕ
calls_left l = 30 - 3 * rank l

-- a level is operands of that level with its operators between them
pub level_is : (depth : ℕ) (nested : Nested → Parser Expr) (l : Level) → level depth nested l ≡ at_level depth nested l (operand depth nested l)
unfolding coalesce logical_or logical_and bit_or bit_xor bit_and equality relation sum product
level_is depth nested levels.Coalesce = refl
level_is depth nested levels.Or = refl
level_is depth nested levels.And = refl
level_is depth nested levels.BitOr = refl
level_is depth nested levels.BitXor = refl
level_is depth nested levels.BitAnd = refl
level_is depth nested levels.Equality = refl
level_is depth nested levels.Relation = refl
level_is depth nested levels.Sum = refl
level_is depth nested levels.Product = refl
