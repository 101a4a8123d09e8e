-- A field of a written shape, with the type that its type is.
use Rattle.std.proofs.Common.{◌≡◌}
use Rattle.hack_tree.specs.declared.written_type.FieldType.{FieldType}
use Rattle.hack_tree.specs.declared.written_type.WrittenType.TheFolds.{fold_out-FieldType}
use Rattle.hack_types.specs.declared.fields.Field.{Field}
use Rattle.hack_types.specs.declared.hack_type.HackType.{HackType}
use Rattle.hack_shallow.specs.Scope.{Scope}
use Rattle.hack_shallow.specs.Resolved.{resolved, resolved_field, type_by, class_by, field_by}

pub field_is : (scope : Scope) (f : FieldType) → resolved_field scope f ≡ record { key = f.key; optional = f.optional; ty = resolved scope f.value }
field_is scope f = fold_out-FieldType HackType HackType (Field HackType) type_by (class_by scope) field_by f
