use Rattle.std.proofs.Common.{rules, ap, arith, map, take, ◌∙◌, ◌≡◌}
use Rattle.std.specs.Map.{values_of}
use Rattle.std.proofs.lemmas.List.{take_all}
use Rattle.hack_types.specs.TypeText.{placed}
use Rattle.hack_types.proofs.FieldOrder.{placed_more, read, values_read}
use Rattle.hack_types.proofs.type_texts.in_order.Goals as goal

pub loop-field-preserved : goal.loop-field-preserved
loop-field-preserved c = ap (map (read c.args.names.now)) c.in_ok-insert.ensures.entries
    ∙ placed_more c.args.names.now _ c.loop-field.field-index c.loop-field.placed.entries c.name_text.result _ c.loop-field-test.true c.name_text.ensures c.field-item.is c.loop-field.invariant

pub returns : goal.returns
returns c =
    let values : c.in_ok-collect.field-0.items ≡ values_of c.loop-field.placed.entries = search rules in
    let whole : take c.loop-field.field-index c.as_slice-field-items.result.now ≡ c.args.fields.now =
    take_all c.loop-field.field-index c.as_slice-field-items.result.now (omega (arith, c.loop-field-test.false)) ∙ c.as_slice-field-items.ensures.items in
    let all = c.loop-field.invariant ∙ ap (placed c.args.names.now) whole in
    ap (map (λ field. field.now)) values ∙ values_read c.args.names.now c.loop-field.placed.entries ∙ ap values_of all
