-- One more field of a written shape is put under its key.
use Rattle.std.proofs.Common.{◌≡◌, ◌∷◌, ◌+◌, ◌<◌, ℕ, Bool, List, length, get_or, map, drop, sym, ap, ◌∙◌}
use Rattle.std.specs.Ordering.{nat_cmp}
use Rattle.std.specs.BTreeMap.{insert_entry}
use Rattle.std.proofs.lemmas.List.{drop_more}
use Rattle.hack_tree.specs.declared.written_type.FieldType.{FieldType}
use Rattle.hack_types.specs.declared.hack_type.HackType.{HackType}
use Rattle.hack_shallow.specs.Scope.{Scope}
use Rattle.hack_shallow.specs.Resolved.{resolved, resolved_field, with_fields}
use Rattle.hack_shallow.proofs.FieldIs.{field_is}

pub fields_next : (scope : Scope) (entries later : List (ℕ × (Bool × HackType))) (written : List FieldType) (i : ℕ) (f : FieldType) (ty : HackType) → i < length written → f ≡ get_or written i f
    → ty ≡ resolved scope f.value → later ≡ insert_entry nat_cmp entries f.key (f.optional, ty)
    → with_fields later (map (resolved_field scope) (drop (i + 1) written)) ≡ with_fields entries (map (resolved_field scope) (drop i written))
fields_next scope entries later written i f ty below is same put =
    let rest = map (resolved_field scope) (drop (i + 1) written) in
    let more : drop i written ≡ f ∷ drop (i + 1) written = drop_more written i f below ∙ ap (λ g. g ∷ drop (i + 1) written) (sym is) in
    ap (λ es. with_fields es rest) (put ∙ ap (λ t. insert_entry nat_cmp entries f.key (f.optional, t)) same)
    ∙ ap (λ g. with_fields entries (g ∷ rest)) (sym (field_is scope f))
    ∙ ap (λ fs. with_fields entries (map (resolved_field scope) fs)) (sym more)
