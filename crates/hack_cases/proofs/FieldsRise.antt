-- How the keys of the fields of a shape rise.
use Rattle.std.proofs.Common.{◌<◌, [], ◌∷◌, sym}
use Rattle.std.specs.List.Sorted.{IsStrictlySortedBy}
use Rattle.std.specs.Cmp.{nat_cmp_is}
use Rattle.std.specs.declared.cmp.Ordering.TheVariants.{Less}
use Rattle.hack_types.specs.Rising.{FieldsRise}
use Rattle.hack_types.specs.declared.fields.Field.{Field}

pub no_fields_rise : (T : Type 0) → FieldsRise {T = T} []
unfolding IsStrictlySortedBy
no_fields_rise T = tt

pub two_fields_rise : {T : Type 0} (a b : Field T) → a.key < b.key → FieldsRise (a ∷ b ∷ [])
unfolding IsStrictlySortedBy
two_fields_rise a b lt = ((sym (nat_cmp_is a.key b.key Less lt), tt), (tt, tt))
