use Rattle.std.proofs.Common.{rules, ◌++◌, codes, length, map, drop, sym, ap, subst, ◌∙◌, ◌+◌, [], inl, inr, arith, ℕ, List, Bor}
use Rattle.hack_types.specs.TypeText.{field_text, joined, rest_text, type_text}
use Rattle.hack_types.specs.formers.fields.Fields.{on_type}
use Rattle.hack_types.proofs.FieldOrder.{inside}
use Rattle.hack_types.proofs.TextLemmas.{around, as_keyset, as_option, as_union, as_vector, class_written, dict_written, dropped, field_written, joined-spread, onto, pieces, shape_written, spread, taken}
use Rattle.hack_types.specs.declared.fields.Field.{Field}
use Rattle.hack_types.specs.declared.hack_type.HackType.{HackType, the_lemmas}
use Rattle.hack_types.proofs.type_texts.+text.Goals as goal

pub write_all-loop-ty-init : goal.write_all-loop-ty-init
write_all-loop-ty-init t c = ap (λ texts. c.extend_from_slice.new.self.items ++ texts) (sym (joined-spread c.args.between.now (map (type_text c.args.names.now) c.as_slice-ty-items.result.now)))

pub write_all-loop-ty-preserved : goal.write_all-loop-ty-preserved
write_all-loop-ty-preserved t c =
    let text = type_text c.args.names.now in
    let items = c.as_slice-ty-items.result.now in
    let more = map text (drop (c.loop-ty.ty-index + 1) items) in
    let old = c.loop-ty.text.items in
    ap (λ written. written ++ spread c.args.between.now c.args.between.now more) (c.in_ok-write_type.ensures ∙ ap (λ written. written ++ text c.ty-item.result) c.in_ok-extend_from_slice-2.ensures.items)
    ∙ taken old c.loop-ty.ahead.now c.args.between.now (text c.ty-item.result) more
    ∙ ap (λ texts. old ++ spread c.loop-ty.ahead.now c.args.between.now texts) (sym (dropped text items c.loop-ty.ty-index c.ty-item.result c.loop-ty-test.true c.ty-item.is))
    ∙ c.loop-ty.invariant

pub write_type-returns-in-Option : goal.write_type-returns-in-Option
write_type-returns-in-Option t c = onto c.write_around.result _ _ _
    (around c.args.text.now.items (codes "?") (type_text c.args.names.now c.get.result.now) []
    ∙ ap (λ text. c.args.text.now.items ++ text) (as_option c.args.names.now c.args.ty.now c.in-Option.inside c.get.result.now c.in-Option.is c.get.ensures)) c.write_around.ensures

pub write_type-returns-in-Vector : goal.write_type-returns-in-Vector
write_type-returns-in-Vector t c = onto c.write_around-in-Vector.result _ _ _
    (around c.args.text.now.items (codes "vec<") (type_text c.args.names.now c.get-in-Vector.result.now) (codes ">")
    ∙ ap (λ text. c.args.text.now.items ++ text) (as_vector c.args.names.now c.args.ty.now c.in-Vector.item c.get-in-Vector.result.now c.in-Vector.is c.get-in-Vector.ensures)) c.write_around-in-Vector.ensures

pub write_type-returns-in-Keyset : goal.write_type-returns-in-Keyset
write_type-returns-in-Keyset t c = onto c.write_around-in-Keyset.result _ _ _
    (around c.args.text.now.items (codes "keyset<") (type_text c.args.names.now c.get-in-Keyset.result.now) (codes ">")
    ∙ ap (λ text. c.args.text.now.items ++ text) (as_keyset c.args.names.now c.args.ty.now c.in-Keyset.item c.get-in-Keyset.result.now c.in-Keyset.is c.get-in-Keyset.ensures)) c.write_around-in-Keyset.ensures

pub write_type-returns-in_ok-write_around-in-Dict : goal.write_type-returns-in_ok-write_around-in-Dict
write_type-returns-in_ok-write_around-in-Dict t c = onto c.write_around-in-Dict-2.result _ _ _
    (dict_written c.args.names.now c.args.ty.now c.args.text.now.items _ c.in-Dict.key c.in-Dict.value c.get-in-Dict.result.now c.get-in-Dict-2.result.now
    c.in-Dict.is c.get-in-Dict.ensures c.get-in-Dict-2.ensures c.in_ok-write_around-in-Dict.ensures) c.write_around-in-Dict-2.ensures

pub write_type-returns-else-is_empty : goal.write_type-returns-else-is_empty
write_type-returns-else-is_empty t c = onto c.write_all.result _ _ _
    (class_written c.args.names.now c.args.ty.now c.args.text.now.items _ _ c.in-Class.name c.in-Class.arguments c.in-Class.is c.name_text.ensures
    (search rules) c.in_ok-extend_from_slice-in-Class.ensures.items) c.write_all.ensures

pub write_type-returns-in-Union : goal.write_type-returns-in-Union
write_type-returns-in-Union t c = onto c.write_all-in-Union.result _ _ _
    (around c.args.text.now.items (codes "(") (joined (codes "|") (map (type_text c.args.names.now) c.in-Union.members)) (codes ")")
    ∙ ap (λ text. c.args.text.now.items ++ text) (as_union c.args.names.now c.args.ty.now c.in-Union.members c.in-Union.is)) c.write_all-in-Union.ensures

pub write_shape-loop-field-init : goal.write_shape-loop-field-init
write_shape-loop-field-init t c =
    ap (λ texts. c.extend_from_slice.new.self.items ++ texts) (sym (joined-spread (codes ", ") (pieces c.args.names.now c.deref-field-items.result.now c.args.rest)))

pub write_shape-write_type-requires : goal.write_shape-write_type-requires
write_shape-write_type-requires t c =
    let at = inside c.args.names.now c.args.fields.now c.in_ok-ordered.ordered.items c.deref-field-items.result.now c.loop-field.field-index c.field-item.result
    c.in_ok-ordered.ensures c.deref-field-items.ensures.value c.loop-field-test.true c.field-item.is in
    omega (arith, c.decreases, at)

pub write_shape-loop-field-preserved : goal.write_shape-loop-field-preserved
write_shape-loop-field-preserved t c =
    let names = c.args.names.now in
    let items = c.deref-field-items.result.now in
    let field = c.field-item.result in
    let text : Bor (Field HackType) → List ℕ = λ f. field_text names (on_type (type_text names) f.now) in
    let more = map text (drop (c.loop-field.field-index + 1) items) ++ rest_text c.args.rest in
    let old = c.loop-field.text.items in
    ap (λ written. written ++ spread (codes ", ") (codes ", ") more)
    (c.in_ok-write_type.ensures ∙ ap (λ written. written ++ type_text names field.now.ty) c.in_ok-write_key.ensures ∙ field_written names old c.loop-field.ahead.now c.name_text.result.now field.now c.name_text.ensures)
    ∙ taken old c.loop-field.ahead.now (codes ", ") (text field) more
    ∙ ap (λ texts. old ++ spread c.loop-field.ahead.now (codes ", ") (texts ++ rest_text c.args.rest)) (sym (dropped text items c.loop-field.field-index field c.loop-field-test.true c.field-item.is))
    ∙ c.loop-field.invariant

pub write_shape-returns : goal.write_shape-returns
write_shape-returns t c =
    let items = c.deref-field-items.result.now in
    onto c.write_end.result _ _ _
    (shape_written c.args.names.now c.args.fields.now items c.args.rest c.args.text.now.items c.extend_from_slice.new.self.items c.loop-field.text.items c.loop-field.ahead.now c.loop-field.field-index
    (ap (map (λ f. f.now)) c.deref-field-items.ensures.value ∙ c.in_ok-ordered.ensures) (omega (arith, c.loop-field-test.false)) c.in_ok-extend_from_slice.ensures.items c.loop-field.invariant)
    c.write_end.ensures
