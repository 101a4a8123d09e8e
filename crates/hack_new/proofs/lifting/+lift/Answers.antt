use Rattle.std.proofs.Common.{◌≡◌, map, take, sym, ap, subst, ◌∙◌, arith}
use Rattle.std.proofs.lemmas.List.{take_all}
use Rattle.hack_types.specs.Rising.{FieldsRise}
use Rattle.hack_types.specs.formers.fields.Fields.{on_type}
use Rattle.hack_rules.specs.Lifting.{lifted}
use Rattle.hack_new.proofs.Rises.{rise_on}
use Rattle.hack_new.proofs.lifting.+lift.Goals as goal

pub lifted_fields-from_vec-requires : goal.lifted_fields-from_vec-requires
lifted_fields-from_vec-requires t c =
    let items = c.as_slice-field-items.result.now in
    let whole : take c.loop-field.field-index items ≡ c.args.fields.now =
    take_all c.loop-field.field-index items (omega (arith, c.loop-field-test.false)) ∙ c.as_slice-field-items.ensures.items in
    let put = on_type (lifted c.args.count) in
    subst FieldsRise (sym (c.loop-field.invariant ∙ ap (map put) whole))
    (rise_on (lifted c.args.count) c.args.fields.now c.as_slice.ensures.rise)
