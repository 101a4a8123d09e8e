-- The type that a written type is (docs/language.md, Types and their texts).
use Rattle.std.specs.Prelude.{ℕ, Bool, List, [], ◌∷◌, map}
use Rattle.std.specs.Ordering.{nat_cmp}
use Rattle.std.specs.BTreeMap.{insert_entry}
use Rattle.hack_tree.specs.declared.written_type.Primitive.{Primitive}
use Rattle.hack_tree.specs.declared.written_type.Primitive.TheVariants as written
use Rattle.hack_tree.specs.declared.written_type.Container.{Container}
use Rattle.hack_tree.specs.declared.written_type.Container.TheVariants as container
use Rattle.hack_tree.specs.declared.written_type.WrittenType.{WrittenType}
use Rattle.hack_tree.specs.declared.written_type.ClassType.{ClassType}
use Rattle.hack_tree.specs.declared.written_type.FieldType.{FieldType}
use Rattle.hack_tree.specs.declared.written_type.WrittenType.TheOpen.{WrittenType-F, ClassType-F, FieldType-F}
use Rattle.hack_tree.specs.declared.written_type.WrittenType.TheFolds.{fold-WrittenType, fold-ClassType, fold-FieldType}
use Rattle.hack_types.specs.declared.fields.Field.{Field}
use Rattle.hack_types.specs.declared.hack_type.HackType.{HackType}
use Rattle.hack_types.specs.declared.hack_type.HackType.TheVariants as type
use Rattle.hack_types.specs.OptionOf.{option_of}
use Rattle.hack_types.specs.Substituted.{limited}
use Rattle.hack_shallow.specs.Scope.{Scope, named}

abbrev pub primitive_type : Primitive → HackType
primitive_type written.ArrayKey = type.Arraykey
primitive_type written.Bool = type.Bool
primitive_type written.Float = type.Float
primitive_type written.Int = type.Int
primitive_type written.Mixed = type.Mixed
primitive_type written.NonNull = type.Nonnull
primitive_type written.NoReturn = type.Noreturn
primitive_type written.Nothing = type.Nothing
primitive_type written.Null = type.Null
primitive_type written.Num = type.Num
primitive_type written.String = type.Str
primitive_type written.Void = type.Void

abbrev pub container_type : Container → HackType → HackType
container_type container.Vec element = type.Vector element
container_type container.Keyset element = type.Keyset element

-- fields by their keys, once these were given too, in order: of two fields with one key the last counts
abbrev pub with_fields : List (ℕ × (Bool × HackType)) → List (Field HackType) → List (ℕ × (Bool × HackType))
with_fields entries [] = entries
with_fields entries (field ∷ fields) = with_fields (insert_entry nat_cmp entries field.key (field.optional, field.ty)) fields

abbrev pub in_order : List (ℕ × (Bool × HackType)) → List (Field HackType)
in_order entries = map (λ e. record { key = e.0; optional = e.1.0; ty = e.1.1 }) entries

-- each key once, by id
abbrev pub last_fields : List (Field HackType) → List (Field HackType)
last_fields fields = in_order (with_fields [] fields)

-- one level of a written type, with the types that its parts are in their place
abbrev pub type_by : WrittenType-F HackType HackType (Field HackType) → HackType
type_by (WrittenType-F.Optional at inner) = option_of inner
type_by (WrittenType-F.Primitive at primitive) = primitive_type primitive
type_by (WrittenType-F.This at) = type.This
type_by (WrittenType-F.Container at container element) = container_type container element
type_by (WrittenType-F.Dict at key value) = type.Dict key value
type_by (WrittenType-F.Shape at fields rest) = type.Shape (last_fields fields) rest
type_by (WrittenType-F.Class named) = named

abbrev pub class_by : Scope → ClassType-F HackType HackType (Field HackType) → HackType
class_by scope class = named scope class.name class.arguments

abbrev pub field_by : FieldType-F HackType HackType (Field HackType) → Field HackType
field_by field = record { key = field.key; optional = field.optional; ty = field.value }

-- the whole type
abbrev pub resolved : Scope → WrittenType → HackType
resolved scope = fold-WrittenType HackType HackType (Field HackType) type_by (class_by scope) field_by

-- a name with type arguments, as it stands behind `extends`, `implements` and `use`
abbrev pub resolved_class : Scope → ClassType → HackType
resolved_class scope = fold-ClassType HackType HackType (Field HackType) type_by (class_by scope) field_by

abbrev pub resolved_field : Scope → FieldType → Field HackType
resolved_field scope = fold-FieldType HackType HackType (Field HackType) type_by (class_by scope) field_by

abbrev pub type_of : Scope → WrittenType → HackType
type_of scope written = limited (resolved scope written)

abbrev pub parent_of : Scope → ClassType → HackType
parent_of scope class = limited (resolved_class scope class)
