-- What a suffix makes of a target whose parts were typed, and the rows of this crate in the pieces that its functions are.
use Rattle.std.specs.Prelude.{ℕ, Bool, true, false, Option, Some, None, List, map}
use Rattle.hack_parts.specs.declared.reading.Reading.{Reading}
use Rattle.hack_parts.specs.declared.reading.Reading.TheVariants as reading
use Rattle.hack_rules.specs.Calls.{arguments_of}
use Rattle.hack_rules.specs.Expressions.{meaning_of}
use Rattle.hack_rules.specs.Meanings.{Aim, Index, Meaning, element as element_aim, other, property}
use Rattle.hack_rules.specs.Members.{instance_alone, member_of, method_of, property_of}
use Rattle.hack_rules.specs.Operators.{Operation, add, operate, subtract}
use Rattle.hack_rules.specs.Targets.{read, store}
use Rattle.hack_rules.specs.Uses.{index_row}
use Rattle.hack_rules.specs.Walks.{Walk, ◌>>=◌, ◌>>◌, pure}
use Rattle.hack_rules.specs.WrittenTypes.{Argument}
use Rattle.hack_tree.specs.declared.expression.AssignOperator.{AssignOperator}
use Rattle.hack_tree.specs.declared.expression.AssignOperator.TheVariants as assign
use Rattle.hack_tree.specs.declared.expression.Entry.{Entry}
use Rattle.hack_tree.specs.declared.expression.Expr.{Expr}
use Rattle.hack_tree.specs.declared.expression.Expr.TheOpen.{Suffix-F}
use Rattle.hack_tree.specs.declared.expression.FieldValue.{FieldValue}
use Rattle.hack_tree.specs.declared.expression.Operand.{Operand}
use Rattle.hack_tree.specs.declared.expression.ScopedMember.{ScopedMember}
use Rattle.hack_tree.specs.declared.expression.Suffix.{Suffix, out-Suffix}
use Rattle.hack_types.specs.declared.hack_type.HackType.{HackType}
use Rattle.hack_types.specs.declared.hack_type.HackType.TheVariants.{Int}
use Rattle.hack_types.specs.declared.place.Place.{Place}

-- whether a reading is that of the left of `??`
abbrev pub is_left : Reading → Bool
is_left reading.Value = false
is_left reading.Left = true

-- whether it is `??=`
abbrev pub is_coalesce : AssignOperator → Bool
is_coalesce assign.Coalesce = true
is_coalesce _ = false

-- the target gets a type, which is that of the whole
unfoldable pub stored : Place → Aim → HackType → Walk HackType
stored at aim ty = do
  store at aim ty
  pure ty

-- an index is typed
unfoldable pub typed_index : Meaning → Walk Index
typed_index index = do
  ty ← index.walk
  pure (record { at = index.at; key = index.key; ty = ty })

-- an index, and then the element
unfoldable pub index_step : Place → Option Meaning → Aim → Walk Aim
index_step at index aim = do
  ty ← read false aim
  typed ← index_row index
  pure (element_aim at aim ty typed)

-- a property
unfoldable pub property_step : Place → Bool → ℕ → Aim → Walk Aim
property_step at null_safe name aim = do
  ty ← read false aim
  found ← member_of at (property_of instance_alone null_safe name) ty
  pure (property found)

-- a method with its arguments
unfoldable pub method_called : Place → Bool → ℕ → List Meaning → HackType → Walk HackType
method_called at null_safe name arguments ty = do
  given ← arguments_of arguments
  member_of at (method_of at instance_alone null_safe name given) ty

unfoldable pub method_step : Place → Bool → ℕ → List Meaning → Aim → Walk Aim
method_step at null_safe name arguments aim = do
  ty ← read false aim
  found ← method_called at null_safe name arguments ty
  pure (other at found)

-- `++` and `--`
unfoldable pub increased : Place → Operation → Aim → Walk HackType
increased at operation aim = do
  before ← read false aim
  ty ← operate at operation before Int
  stored at aim ty

unfoldable pub increment_step : Place → Operation → Aim → Walk Aim
increment_step at operation aim = do
  ty ← increased at operation aim
  pure (other at ty)

-- what stands in a suffix, by what stands for each expression in it
abbrev pub suffix_step_by : Place → Suffix-F Expr ScopedMember Suffix Entry FieldValue Operand → Aim → Walk Aim
suffix_step_by at (Suffix-F.Index None) = index_step at None
suffix_step_by at (Suffix-F.Index (Some index)) = index_step at (Some (meaning_of index))
suffix_step_by at (Suffix-F.Member null_safe name None) = property_step at null_safe name
suffix_step_by at (Suffix-F.Member null_safe name (Some arguments)) = method_step at null_safe name (map meaning_of arguments)
suffix_step_by at Suffix-F.Increment = increment_step at add
suffix_step_by at Suffix-F.Decrement = increment_step at subtract

-- a suffix
abbrev pub suffix_step : Place → Suffix → Aim → Walk Aim
suffix_step at suffix = suffix_step_by at (out-Suffix suffix)
