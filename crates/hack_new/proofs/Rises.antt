-- Fields with other types have the same keys.
use Rattle.std.proofs.Common.{List, map, sym, subst}
use Rattle.std.proofs.lemmas.Simd.{map-map}
use Rattle.hack_types.specs.Rising.{FieldsRise, NamesRise}
use Rattle.hack_types.specs.declared.fields.Field.{Field}
use Rattle.hack_types.specs.declared.hack_type.HackType.{HackType}
use Rattle.hack_types.specs.formers.fields.Fields.{on_type}

pub rise_on : (f : HackType → HackType) (fields : List (Field HackType)) → FieldsRise fields → FieldsRise (map (on_type f) fields)
rise_on f fields rise = subst NamesRise (sym (map-map (λ (field : Field HackType). field.key) (on_type f) fields)) rise
