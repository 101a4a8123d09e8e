use Rattle.std.proofs.Common.{◌≡◌, map, take, sym, ap, subst, ◌∙◌, arith}
use Rattle.std.proofs.lemmas.List.{take_all}
use Rattle.hack_types.specs.Rising.{FieldsRise}
use Rattle.hack_types.specs.Substituted.{substitute}
use Rattle.hack_types.specs.formers.fields.Fields.{on_type}
use Rattle.hack_types.proofs.PutLemmas.{put_rise}
use Rattle.hack_types.proofs.+put.Goals as goal

pub type_substitute::put_into_fields-from_vec-requires :
    goal.type_substitute::put_into_fields-from_vec-requires
type_substitute::put_into_fields-from_vec-requires t c =
    let items = c.as_slice-field-items.result.now in
    let whole : take c.loop-field.field-index items ≡ c.args.fields.now =
    take_all c.loop-field.field-index items (omega (arith, c.loop-field-test.false)) ∙ c.as_slice-field-items.ensures.items in
    subst FieldsRise (sym (c.loop-field.invariant ∙ ap (map (on_type (substitute c.args.arguments.now))) whole))
    (put_rise c.args.arguments.now c.args.fields.now c.as_slice.ensures.rise)
