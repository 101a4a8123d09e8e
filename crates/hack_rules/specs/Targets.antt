-- Targets and assignments (docs/language.md, Typing expressions, Assignment).
use Rattle.std.specs.Prelude.{ℕ, Bool, true, false, Option, Some, None, ◌++◌}
use Rattle.hack_tree.specs.declared.expression.AssignOperator.{AssignOperator}
use Rattle.hack_tree.specs.declared.expression.AssignOperator.TheVariants as assign
use Rattle.hack_types.specs.declared.hack_type.HackType.{HackType}
use Rattle.hack_types.specs.declared.hack_type.HackType.TheVariants.{Int}
use Rattle.hack_types.specs.declared.place.Place.{Place}
use Rattle.hack_rules.specs.Indices.{element, with_element}
use Rattle.hack_rules.specs.Meanings.{Aim, Meaning, element as element_aim, other, plain, property, variable}
use Rattle.hack_diag.specs.Messages.{not_assignable, undefined_variable}
use Rattle.hack_rules.specs.Operators.{Operation, assigning, operate}
use Rattle.hack_rules.specs.Variables.{union_of_two}
use Rattle.hack_rules.specs.Walks.{Walk, ◌>>=◌, ◌>>◌, pure, reads, assign as give, expect, refuse, report, variable_here}
use Rattle.hack_infer.specs.WithoutNull.{without_null}

-- its type, else 4005 and `_`
abbrev pub variable_or : Place → ℕ → Option HackType → Walk HackType
variable_or at name (Some ty) = pure ty
variable_or at name None = refuse at (undefined_variable name)

-- the type that a variable has here, else 4005 and `_`
unfoldable pub look_up : Place → ℕ → Walk HackType
look_up at name = do
  found ← variable_here name
  variable_or at name found

-- a target whose parts were typed, as a value; whether it stands in the left of `??`
unfoldable pub read : Bool → Aim → Walk HackType
read left (variable at name) = look_up at name
read left (property ty) = pure ty
read left (element_aim at base ty index) = element at left ty index
read left (other at ty) = pure ty

-- a target gets a type: a variable has it from here on, a property expects it, an element makes a new value for its base, and anything
-- else is 4016 at the target; the place that is handed on is that of what is assigned, where a value that doesn't fit is reported
unfoldable pub store : Place → Aim → HackType → Walk (Unit {0})
store value_at (variable at name) new = give name new
store value_at (property ty) new = expect value_at ty new
store value_at (element_aim at base ty index) new = do
  made ← with_element at value_at ty index new
  store value_at base made
store value_at (other at ty) new = report at not_assignable

-- `target = value`: its parts, the value, and then the target gets the value's type, which is that of the whole
unfoldable pub assign_row : Meaning → Meaning → Walk HackType
assign_row target value = do
  aim ← target.aim
  ty ← value.walk
  store value.at aim ty
  pure ty

-- the other assignments: the parts are typed once, the target is read, and what an operator makes of it is stored
unfoldable pub assign_with : Place → Bool → Walk Aim → Walk HackType → (HackType → HackType → Walk HackType) → Walk HackType
assign_with at left target value combine = do
  aim ← target
  before ← read left aim
  other_ty ← value
  ty ← combine before other_ty
  store at aim ty
  pure ty

-- the value on the left where it isn't null, else that on the right
unfoldable pub coalesced : HackType → HackType → Walk HackType
coalesced left right = reads (λ map scope. union_of_two (without_null map left) right)

-- `++` and `--`: the place is that of the first token
unfoldable pub increment_row : Place → Operation → Meaning → Walk HackType
increment_row at operation target = assign_with at false target.aim (pure Int) (operate at operation)

-- `++` and `--`, before and behind
abbrev pub increment : Place → Operation → Meaning → Meaning
increment at operation target = plain at (increment_row at operation target) (target.assigned ++ target.roots)

-- assignments with an operator
abbrev pub operator_row : Place → Option Operation → Meaning → Meaning → Walk HackType
operator_row at None target value = assign_row target value
operator_row at (Some operation) target value = assign_with at false target.aim value.walk (operate at operation)

-- each of the page's assignments
abbrev pub assigned_by : Place → AssignOperator → Meaning → Meaning → Walk HackType
assigned_by at assign.Assign target value = assign_row target value
assigned_by at assign.Coalesce target value = assign_with at true target.left_aim value.walk coalesced
assigned_by at operator target value = operator_row at (assigning operator) target value

-- `target = value` and its kin
abbrev pub assignment : Place → AssignOperator → Meaning → Meaning → Meaning
assignment at operator target value = plain at (assigned_by at operator target value) (target.assigned ++ value.assigned ++ target.roots)
