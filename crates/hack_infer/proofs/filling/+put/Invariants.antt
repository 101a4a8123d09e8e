use Rattle.std.proofs.Common.{◌≡◌, map, take}
use Rattle.hack_types.specs.formers.fields.Fields.{on_type}
use Rattle.hack_infer.specs.Filling.{filled, filling_of}
use Rattle.hack_infer.proofs.filling.+put.Given as goal

abbrev pub invariant-put_into_all-loop-ty : goal.invariant-put_into_all-loop-ty
invariant-put_into_all-loop-ty l = l.all.items ≡ map (filled (filling_of l.filling)) (take l.ty-index l.ty-items)

abbrev pub invariant-put_into_fields-loop-field : goal.invariant-put_into_fields-loop-field
invariant-put_into_fields-loop-field l = l.all.items ≡ map (on_type (filled (filling_of l.filling))) (take l.field-index l.field-items)
