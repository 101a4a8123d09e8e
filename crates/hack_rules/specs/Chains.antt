-- Operators between and before operands, and `? :` (docs/language.md, Typing expressions).
use Rattle.std.specs.Prelude.{ℕ, Bool, true, false, if◌then◌else◌, Option, Some, None, List, [], ◌∷◌, ◌++◌, fold}
use Rattle.hack_tree.specs.declared.expression.BinaryOperator.{BinaryOperator}
use Rattle.hack_tree.specs.declared.expression.BinaryOperator.TheVariants as binary
use Rattle.hack_tree.specs.declared.expression.PrefixOperator.{PrefixOperator}
use Rattle.hack_tree.specs.declared.expression.PrefixOperator.TheVariants as prefix
use Rattle.hack_types.specs.declared.hack_type.HackType.{HackType}
use Rattle.hack_types.specs.declared.hack_type.HackType.TheVariants as type
use Rattle.hack_types.specs.declared.place.Place.{Place}
use Rattle.hack_rules.specs.Meanings.{Branches, Meaning, plain}
use Rattle.hack_rules.specs.Operators.{Operation, Sign, add, complement, minus, operate, operate_alone, operation_of, plus, power, subtract}
use Rattle.hack_rules.specs.Refining.{swapped, tested_branches}
use Rattle.hack_rules.specs.Targets.{coalesced, increment}
use Rattle.hack_rules.specs.Values.{assigned_in_all}
use Rattle.hack_rules.specs.Variables.{joined, union_of_two}
use Rattle.hack_rules.specs.Walks.{Walk, ◌>>=◌, ◌>>◌, pure, replace, variables}

-- ---- `!`, `&&`, `||`

-- bool
unfoldable pub not_row : Meaning → Walk HackType
not_row operand = do
  operand.walk
  pure type.Bool

-- where the operand holds it doesn't
unfoldable pub not_branches : Meaning → Walk Branches
not_branches operand = do
  branches ← operand.branches
  pure (swapped branches)

-- bool; its branches are those of its operand, swapped
abbrev pub not_value : Place → Meaning → Meaning
not_value at operand = record (plain at (not_row operand) operand.assigned) { branches = not_branches operand }

-- the right side is typed where the left holds; behind the whole stands the end of the left where it doesn't, joined with that of the right
unfoldable pub and_row : Meaning → Meaning → Walk HackType
and_row left right = do
  first ← left.branches
  replace first.when_true
  right.walk
  behind ← variables
  replace (joined first.when_false behind)
  pure type.Bool

-- as a condition: the right side's branches, and where it doesn't hold those of both sides
unfoldable pub and_branches : Meaning → Meaning → Walk Branches
and_branches left right = do
  first ← left.branches
  replace first.when_true
  second ← right.branches
  pure (record { when_true = second.when_true; when_false = joined first.when_false second.when_false })

-- `a && b`
abbrev pub and_value : Meaning → Meaning → Meaning
and_value left right = record (plain left.at (and_row left right) (left.assigned ++ right.assigned)) { branches = and_branches left right }

-- the right side is typed where the left doesn't hold
unfoldable pub or_row : Meaning → Meaning → Walk HackType
or_row left right = do
  first ← left.branches
  replace first.when_false
  right.walk
  behind ← variables
  replace (joined first.when_true behind)
  pure type.Bool

-- as a condition: the right side's branches, and where it holds those of both sides
unfoldable pub or_branches : Meaning → Meaning → Walk Branches
or_branches left right = do
  first ← left.branches
  replace first.when_false
  second ← right.branches
  pure (record { when_true = joined first.when_true second.when_true; when_false = second.when_false })

-- `a || b`
abbrev pub or_value : Meaning → Meaning → Meaning
or_value left right = record (plain left.at (or_row left right) (left.assigned ++ right.assigned)) { branches = or_branches left right }

-- ---- `==` and its kin

-- bool, of whatever operands
unfoldable pub equality_row : Meaning → Meaning → Walk HackType
equality_row left right = do
  left.walk
  right.walk
  pure type.Bool

-- the variable that is compared with `null`, in either order
abbrev pub compared : Meaning → Meaning → Option ℕ
compared left right = if right.is_null then left.subject else (if left.is_null then right.subject else None)

-- as a condition it is a test of that variable
unfoldable pub equality_branches : Meaning → Meaning → Walk Branches
equality_branches left right = do
  equality_row left right
  tested_branches (compared left right) type.Null

-- the same, swapped
unfoldable pub inequality_branches : Meaning → Meaning → Walk Branches
inequality_branches left right = do
  branches ← equality_branches left right
  pure (swapped branches)

-- a comparison with `null` is `is null`
abbrev pub equality_value : Meaning → Meaning → Meaning
equality_value left right =
    record (plain left.at (equality_row left right) (left.assigned ++ right.assigned)) { branches = equality_branches left right }

-- `!=` and `!==`
abbrev pub inequality_value : Meaning → Meaning → Meaning
inequality_value left right =
    record (plain left.at (equality_row left right) (left.assigned ++ right.assigned)) { branches = inequality_branches left right }

-- ---- operators with a table

-- both operands are typed, and then the table is asked
unfoldable pub operation_row : Operation → Meaning → Meaning → Walk HackType
operation_row operation left right = do
  first ← left.walk
  second ← right.walk
  operate left.at operation first second

-- operators with a table
abbrev pub operation_value : Operation → Meaning → Meaning → Meaning
operation_value operation left right = plain left.at (operation_row operation left right) (left.assigned ++ right.assigned)

-- the operands are typed from left to right, and grouped from the right
unfoldable pub power_row : List Meaning → Walk HackType
power_row [] = pure type.Any
power_row (last ∷ []) = last.walk
power_row (operand ∷ next ∷ operands) = do
  first ← operand.walk
  second ← power_row (next ∷ operands)
  operate operand.at power first second

-- `a ** b`
abbrev pub power_value : Place → List Meaning → Meaning
power_value at operands = plain at (power_row operands) (assigned_in_all operands)

-- the operand is typed, and then the table is asked
unfoldable pub sign_row : Place → Sign → Meaning → Walk HackType
sign_row at sign operand = do
  ty ← operand.walk
  operate_alone at sign ty

-- `-e`, `+e`, `~e`
abbrev pub sign_value : Place → Sign → Meaning → Meaning
sign_value at sign operand = plain at (sign_row at sign operand) operand.assigned

-- ---- `??` and `? :`

-- the left without null and the right; the environment simply goes along
unfoldable pub coalesce_row : Meaning → Meaning → Walk HackType
coalesce_row left right = do
  first ← left.left
  second ← right.walk
  coalesced first second

-- `a ?? b`
abbrev pub coalesce_value : Meaning → Meaning → Meaning
coalesce_value left right = plain left.at (coalesce_row left right) (left.assigned ++ right.assigned)

-- `a ?: b`
unfoldable pub short_row : Meaning → Meaning → Walk HackType
short_row condition other = do
  first ← condition.walk
  second ← other.walk
  coalesced first second

-- `c ? a : b`: each part in its branch, the ends joined
unfoldable pub conditional_row : Meaning → Meaning → Meaning → Walk HackType
conditional_row condition middle other = do
  branches ← condition.branches
  replace branches.when_true
  first ← middle.walk
  behind ← variables
  replace branches.when_false
  second ← other.walk
  end ← variables
  replace (joined behind end)
  pure (union_of_two first second)

-- `c ? a : b`, and `c ?: b` where nothing stands between
abbrev pub conditional_value : Place → Meaning → Option Meaning → Meaning → Meaning
conditional_value at condition None other = plain at (short_row condition other) (condition.assigned ++ other.assigned)
conditional_value at condition (Some middle) other =
    plain at (conditional_row condition middle other) (condition.assigned ++ middle.assigned ++ other.assigned)

-- ---- chains

-- an operand of a chain, with the operator before it
pub record Joined : Type 0 where
  pub operator : BinaryOperator
  pub operand : Meaning

-- of the operators that have no table only `??` comes here
abbrev pub operation_or : Option Operation → Meaning → Meaning → Meaning
operation_or (Some operation) left right = operation_value operation left right
operation_or None left right = coalesce_value left right

-- one operator between two operands
abbrev pub binary_value : BinaryOperator → Meaning → Meaning → Meaning
binary_value binary.Coalesce left right = coalesce_value left right
binary_value binary.Or left right = or_value left right
binary_value binary.And left right = and_value left right
binary_value binary.Equal left right = equality_value left right
binary_value binary.Identical left right = equality_value left right
binary_value binary.NotEqual left right = inequality_value left right
binary_value binary.NotIdentical left right = inequality_value left right
binary_value operator left right = operation_or (operation_of operator) left right

-- `??` is grouped from the right
abbrev pub is_coalesce : BinaryOperator → Bool
is_coalesce binary.Coalesce = true
is_coalesce _ = false

-- grouped from the right
unfoldable pub from_right : Meaning → List Joined → Meaning
from_right first [] = first
from_right first (next ∷ others) = coalesce_value first (from_right next.operand others)

-- grouped from the left
unfoldable pub from_left : Meaning → List Joined → Meaning
from_left first others = fold (λ left next. binary_value next.operator left next.operand) first others

-- the operands of a chain, grouped from one side
abbrev pub chain_by : Bool → Meaning → List Joined → Meaning
chain_by true first others = from_right first others
chain_by false first others = from_left first others

-- all operators of a chain are of one level, so the first says how it is grouped
unfoldable pub chain_value : Meaning → List Joined → Meaning
chain_value first [] = first
chain_value first (next ∷ others) = chain_by (is_coalesce next.operator) first (next ∷ others)

-- an operator before its operand
abbrev pub prefix_value : Place → PrefixOperator → Meaning → Meaning
prefix_value at prefix.Not operand = not_value at operand
prefix_value at prefix.Minus operand = sign_value at minus operand
prefix_value at prefix.Plus operand = sign_value at plus operand
prefix_value at prefix.BitNot operand = sign_value at complement operand
prefix_value at prefix.Increment operand = increment at add operand
prefix_value at prefix.Decrement operand = increment at subtract operand
