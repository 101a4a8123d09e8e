-- How a chain goes on from what is known of it so far (docs/language.md, Typing expressions).
use Rattle.std.specs.Prelude.{ℕ, zero, suc, Bool, true, false, Option, Some, None, List, [], ◌∷◌, All}
use Rattle.hack_tree.specs.declared.expression.BinaryOperator.{BinaryOperator}
use Rattle.hack_tree.specs.declared.expression.BinaryOperator.TheVariants as binary
use Rattle.hack_tree.specs.declared.expression.Expr.{Expr}
use Rattle.hack_tree.specs.declared.expression.Operand.{Operand}
use Rattle.hack_types.specs.declared.hack_type.HackType.{HackType}
use Rattle.hack_types.specs.declared.hack_type.HackType.TheVariants as type
use Rattle.hack_types.specs.declared.place.Place.{Place}
use Rattle.hack_decls.specs.DeclState.{Symbols}
use Rattle.hack_decls.specs.Names.{TypeIn}
use Rattle.hack_parts.specs.ExprIn.{ExprIn, OperandIn}
use Rattle.hack_parts.specs.Parts.{walk_by}
use Rattle.hack_parts.specs.declared.reading.Reading.{Reading}
use Rattle.hack_parts.specs.declared.reading.Reading.TheVariants as reading
use Rattle.hack_rules.specs.Chains.{compared}
use Rattle.hack_rules.specs.Meanings.{Branches, Meaning}
use Rattle.hack_rules.specs.Operators.{Operation, operate, operation_of}
use Rattle.hack_rules.specs.Refining.{swapped, tested_branches}
use Rattle.hack_rules.specs.Targets.{coalesced}
use Rattle.hack_rules.specs.Variables.{Variables, joined}
use Rattle.hack_rules.specs.Walks.{Walk, ◌>>=◌, ◌>>◌, pure, replace, variables}
use Rattle.hack_walk.specs.Checks.{BranchesIn}
use Rattle.hack_sub.specs.declared.scope.Scope.{Scope}
use Rattle.hack_chains.specs.declared.so_far.SoFar.{SoFar}
use Rattle.hack_chains.specs.declared.so_far.SoFar.TheVariants as so
use Rattle.hack_chains.specs.declared.so_far.Wanted.{Wanted}
use Rattle.hack_chains.specs.declared.so_far.Wanted.TheVariants as wanted

-- ---- what stands left of an operator

-- as a value in this reading
abbrev pub as_value : Reading → Meaning → Walk SoFar
as_value as_read meaning = walk_by as_read meaning >>= (λ ty. pure (so.Value ty))

-- as a condition
abbrev pub as_condition : Meaning → Walk SoFar
as_condition meaning = meaning.branches >>= (λ branches. pure (so.Branches branches))

-- in the form in which it is asked for
abbrev pub reached : Wanted → Meaning → Walk SoFar
reached wanted.Value meaning = as_value reading.Value meaning
reached wanted.Left meaning = as_value reading.Left meaning
reached wanted.Branches meaning = as_condition meaning

-- all that it names is among these symbols
abbrev pub SoFarIn : Symbols → SoFar → Type 0
SoFarIn symbols (so.Value ty) = TypeIn symbols ty
SoFarIn symbols (so.Branches branches) = BranchesIn symbols branches

-- the form in which an operator asks for it
abbrev pub asked : BinaryOperator → Wanted
asked binary.Coalesce = wanted.Left
asked binary.Or = wanted.Branches
asked binary.And = wanted.Branches
asked _ = wanted.Value

-- ---- `&&` and `||`

abbrev pub is_and : BinaryOperator → Bool
is_and binary.And = true
is_and _ = false

-- where the left side leads on to the right one, and where it doesn't
abbrev pub typed_side : Bool → Branches → Variables
typed_side true branches = branches.when_true
typed_side false branches = branches.when_false

abbrev pub other_side : Bool → Branches → Variables
other_side true branches = branches.when_false
other_side false branches = branches.when_true

-- the branches of the whole
abbrev pub ends : Bool → Variables → Branches → Branches
ends true apart second = record { when_true = second.when_true; when_false = joined apart second.when_false }
ends false apart second = record { when_true = joined apart second.when_true; when_false = second.when_false }

unfoldable pub logic_row : Bool → Meaning → Branches → Walk HackType
logic_row and right first = do
  replace (typed_side and first)
  right.walk
  behind ← variables
  replace (joined (other_side and first) behind)
  pure type.Bool

unfoldable pub logic_branches : Bool → Meaning → Branches → Walk Branches
logic_branches and right first = do
  replace (typed_side and first)
  second ← right.branches
  pure (ends and (other_side and first) second)

-- ---- operators that ask for a value

-- whether an operator compares, and then whether it holds where both are the same
abbrev pub equality_of : BinaryOperator → Option Bool
equality_of binary.Equal = Some true
equality_of binary.Identical = Some true
equality_of binary.NotEqual = Some false
equality_of binary.NotIdentical = Some false
equality_of _ = None

abbrev pub turned : Bool → Branches → Branches
turned true branches = branches
turned false branches = swapped branches

-- what comes of the types of both sides
abbrev pub outcome : Place → Option Bool → Option Operation → HackType → HackType → Walk HackType
outcome at (Some same) operation first second = pure type.Bool
outcome at None (Some operation) first second = operate at operation first second
outcome at None None first second = coalesced first second

-- the same as a condition, of which nothing is known
abbrev pub plain_outcome : Place → Option Operation → HackType → HackType → Walk Branches
plain_outcome at operation first second = do
  outcome at None operation first second
  behind ← variables
  pure (record { when_true = behind; when_false = behind })

-- a comparison with `null` of this variable, if it is one
abbrev pub comparison : Option ℕ → Bool → Walk Branches
comparison subject same = do
  branches ← tested_branches subject type.Null
  pure (turned same branches)

abbrev pub outcome_branches : Place → Option ℕ → Option Bool → Option Operation → HackType → HackType → Walk Branches
outcome_branches at subject (Some same) operation first second = comparison subject same
outcome_branches at subject None operation first second = plain_outcome at operation first second

unfoldable pub value_on : Place → BinaryOperator → Meaning → HackType → Walk HackType
value_on at operator right first = do
  second ← right.walk
  outcome at (equality_of operator) (operation_of operator) first second

unfoldable pub branches_on : Place → Option ℕ → BinaryOperator → Meaning → HackType → Walk Branches
branches_on at subject operator right first = do
  second ← right.walk
  outcome_branches at subject (equality_of operator) (operation_of operator) first second

-- ---- one more operator

abbrev pub step_value : Place → BinaryOperator → Meaning → SoFar → Walk HackType
step_value at operator right (so.Value first) = value_on at operator right first
step_value at operator right (so.Branches first) = logic_row (is_and operator) right first

abbrev pub step_branches : Place → Option ℕ → BinaryOperator → Meaning → SoFar → Walk Branches
step_branches at subject operator right (so.Value first) = branches_on at subject operator right first
step_branches at subject operator right (so.Branches first) = logic_branches (is_and operator) right first

abbrev pub value_so_far : Place → BinaryOperator → Meaning → SoFar → Walk SoFar
value_so_far at operator right so_far = step_value at operator right so_far >>= (λ ty. pure (so.Value ty))

abbrev pub branches_so_far : Place → Option ℕ → BinaryOperator → Meaning → SoFar → Walk SoFar
branches_so_far at subject operator right so_far = step_branches at subject operator right so_far >>= (λ branches. pure (so.Branches branches))

abbrev pub step_on : Wanted → Place → Option ℕ → BinaryOperator → Meaning → SoFar → Walk SoFar
step_on wanted.Value at subject operator right so_far = value_so_far at operator right so_far
step_on wanted.Left at subject operator right so_far = value_so_far at operator right so_far
step_on wanted.Branches at subject operator right so_far = branches_so_far at subject operator right so_far

-- ---- operators one behind another

-- the form in which the operator at this index asks for what stands left of it, and behind the last one this form
abbrev pub asked_at : List Operand → ℕ → Wanted → Wanted
asked_at [] i last = last
asked_at (other ∷ others) zero last = asked other.operator
asked_at (other ∷ others) (suc i) last = asked_at others i last

-- the variable that is compared with `null` by the operator at this index: a longer left side is neither
abbrev pub compared_at : ℕ → Meaning → Meaning → Option ℕ
compared_at zero first right = compared first right
compared_at (suc i) first right = None

-- the first of these operators
abbrev pub first_operator : List Operand → Operand → BinaryOperator
first_operator [] last = last.operator
first_operator (other ∷ others) last = other.operator

-- all that a chain with an operator names is among these symbols
pub record ChainIn (scope : Scope) (symbols : Symbols) (e : Expr) (others : List Operand) (end : Operand) : Type 0 where
  pub first : ExprIn scope symbols e
  pub front : All (OperandIn scope symbols) others
  pub last : OperandIn scope symbols end
