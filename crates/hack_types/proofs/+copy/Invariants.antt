use Rattle.std.proofs.Common.{◌≡◌, take}
use Rattle.hack_types.proofs.+copy.Given as goal

abbrev pub invariant-type_copy::copy_all-loop-ty : goal.invariant-type_copy::copy_all-loop-ty
invariant-type_copy::copy_all-loop-ty l = l.copied.items ≡ take l.ty-index l.ty-items

abbrev pub invariant-type_copy::copy_fields-loop-field : goal.invariant-type_copy::copy_fields-loop-field
invariant-type_copy::copy_fields-loop-field l = l.copied.items ≡ take l.field-index l.field-items
