-- Operands that are typed from left to right, and put together from the right (docs/language.md, Typing expressions).
use Rattle.std.specs.Prelude.{List, [], ◌∷◌}
use Rattle.hack_tree.specs.declared.expression.Expr.{Expr}
use Rattle.hack_tree.specs.declared.expression.Operand.{Operand}
use Rattle.hack_types.specs.declared.hack_type.HackType.{HackType}
use Rattle.hack_types.specs.declared.place.Place.{Place}
use Rattle.hack_decls.specs.DeclState.{Symbols}
use Rattle.hack_decls.specs.Names.{TypeIn}
use Rattle.hack_parts.specs.Parts.{walk_by}
use Rattle.hack_parts.specs.declared.reading.Reading.{Reading}
use Rattle.hack_parts.specs.declared.reading.Reading.TheVariants as reading
use Rattle.hack_rules.specs.Expressions.{meaning_of}
use Rattle.hack_rules.specs.Meanings.{Meaning}
use Rattle.hack_rules.specs.Operators.{operate, power}
use Rattle.hack_rules.specs.Targets.{coalesced}
use Rattle.hack_rules.specs.Walks.{Walk, ◌>>=◌, each, pure}
use Rattle.hack_chains.specs.declared.typed.Grouping.{Grouping}
use Rattle.hack_chains.specs.declared.typed.Grouping.TheVariants as grouping
use Rattle.hack_chains.specs.declared.typed.Typed.{Typed}

-- its type is among these symbols
abbrev pub TypedIn : Symbols → Typed → Type 0
TypedIn symbols item = TypeIn symbols item.ty

-- an operand in this reading, with its place
abbrev pub typed_by : Reading → Meaning → Walk Typed
typed_by as_read meaning = walk_by as_read meaning >>= (λ ty. pure (record { at = meaning.at; ty = ty }))

-- as a value
abbrev pub value_of : Expr → Walk Typed
value_of e = typed_by reading.Value (meaning_of e)

-- in the left of `??`
abbrev pub left_of : Operand → Walk Typed
left_of other = typed_by reading.Left (meaning_of other.operand)

-- what comes of two types
abbrev pub combined : Grouping → Place → HackType → HackType → Walk HackType
combined grouping.Coalesce at left right = coalesced left right
combined grouping.Power at left right = operate at power left right

-- these, and behind them one of this type
unfoldable pub grouped : Grouping → List Typed → HackType → Walk HackType
grouped by [] last = pure last
grouped by (item ∷ items) last = do
  right ← grouped by items last
  combined by item.at item.ty right

-- operands with `**` between them
unfoldable pub values_row : List Expr → Expr → Walk HackType
values_row front last = do
  items ← each value_of front
  ty ← (meaning_of last).walk
  grouped grouping.Power items ty

-- operands with `??` between them, behind another one
unfoldable pub lefts_row : List Operand → Operand → Walk HackType
lefts_row front last = do
  items ← each left_of front
  ty ← (meaning_of last.operand).walk
  grouped grouping.Coalesce items ty
