use Rattle.std.proofs.Common.{◌∙◌, ℕ, Bool, List, ap, nat_cmp}
use Rattle.std.specs.BTreeMap.{insert_entry}
use Rattle.hack_types.specs.declared.hack_type.HackType.{HackType}
use Rattle.hack_targets.proofs.ShapeMade.{fields_next}
use Rattle.hack_targets.proofs.made.keyed.Goals as goal

pub loop-field-preserved : goal.loop-field-preserved
loop-field-preserved c =
    let fields = c.as_slice-field-items.result.now in let i = c.loop-field.field-index in let f = c.field-item.result in
    c.in_ok-insert.ensures.entries
    ∙ ap (λ (ty : HackType). insert_entry nat_cmp c.loop-field.by_key.entries f.key (f.optional, ty)) c.in_ok-copy.ensures
    ∙ ap (λ (entries : List (ℕ × (Bool × HackType))). insert_entry nat_cmp entries f.key (f.optional, f.ty)) c.loop-field.invariant
    ∙ fields_next fields i f c.loop-field-test.true c.field-item.is
