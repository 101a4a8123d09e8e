use Rattle.std.proofs.Common.{◌≡◌, map, take}
use Rattle.hack_types.specs.Substituted.{substitute}
use Rattle.hack_types.specs.formers.fields.Fields.{on_type}
use Rattle.hack_types.proofs.+put.Given as goal

abbrev pub invariant-type_substitute::put_into_all-loop-ty : goal.invariant-type_substitute::put_into_all-loop-ty
invariant-type_substitute::put_into_all-loop-ty l = l.put.items ≡ map (substitute l.arguments) (take l.ty-index l.ty-items)

abbrev pub invariant-type_substitute::put_into_fields-loop-field : goal.invariant-type_substitute::put_into_fields-loop-field
invariant-type_substitute::put_into_fields-loop-field l = l.put.items ≡ map (on_type (substitute l.arguments)) (take l.field-index l.field-items)
