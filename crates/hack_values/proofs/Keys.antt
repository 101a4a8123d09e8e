-- The keys of shapes: which were given, and the fields under them.
use Rattle.std.proofs.Common.{◌≡◌, ◌≢◌, ◌==◌, ◌∙◌, ◌&&◌, ◌++◌, ◌∷◌, ℕ, Bool, true, false, cond, not, Option, Some, List, [], is_some, refl, sym, ap, arith, inl, inr}
use Rattle.std.proofs.lemmas.Bool.{cases_lt}
use Rattle.std.proofs.lemmas.Bool.Decides.{eqb_tells}
use Rattle.std.specs.BTreeMap.{insert_entry}
use Rattle.std.specs.Cmp.{nat_cmp_is}
use Rattle.std.specs.List.{list_all}
use Rattle.std.specs.Ordering.{is_eq, nat_cmp}
use Rattle.std.specs.declared.cmp.Ordering.TheVariants.{Less, Equal, Greater}
use Rattle.hack_tree.specs.declared.expression.FieldValue.{FieldValue}
use Rattle.hack_types.specs.declared.fields.Field.{Field}
use Rattle.hack_types.specs.declared.hack_type.HackType.{HackType}
use Rattle.hack_shallow.specs.Resolved.{with_fields}
use Rattle.hack_rules.specs.WrittenTypes.{is_key_of}

-- the keys that were given, once these fields were
abbrev pub keys_after : List ℕ → List FieldValue → List ℕ
keys_after keys [] = keys
keys_after keys (field ∷ fields) = keys_after (field.key ∷ keys) fields

pub after_more : (keys : List ℕ) (fields : List FieldValue) (field : FieldValue) → keys_after keys (fields ++ field ∷ []) ≡ field.key ∷ keys_after keys fields
after_more keys [] field = refl
after_more keys (f ∷ fs) field = after_more (f.key ∷ keys) fs field

pub with_more : (entries : List (ℕ × (Bool × HackType))) (fields : List (Field HackType)) (field : Field HackType)
    → with_fields entries (fields ++ field ∷ []) ≡ insert_entry nat_cmp (with_fields entries fields) field.key (field.optional, field.ty)
with_more entries [] field = refl
with_more entries (f ∷ fs) field = with_more (insert_entry nat_cmp entries f.key (f.optional, f.ty)) fs field

apart : (key query : ℕ) → key ≢ query → is_eq (nat_cmp key query) ≡ false
apart key query ne =
    elim (cases_lt key query) [
      | inl below ↦ ap is_eq (sym (nat_cmp_is key query Less below))
      | inr others ↦ elim (cases_lt query key) [
        | inl above ↦ ap is_eq (sym (nat_cmp_is key query Greater above))
        | inr equal ↦ absurd (ne (omega (arith, others, equal)))
      ]
    ]

given_by : {V : Type 0} (b : Bool) (key query : ℕ) (keys : List ℕ) (v : V) (before : Option V) → (key == query) ≡ b → is_eq (nat_cmp key query) ≡ b
    → is_key_of query keys ≡ is_some before → is_key_of query (key ∷ keys) ≡ is_some (cond (is_eq (nat_cmp key query)) (Some v) before)
given_by true key query keys v before is same was =
    ap (λ b. not (not b && list_all (λ k. not (k == query)) keys)) is ∙ sym (ap (λ b. is_some (cond b (Some v) before)) same)
given_by false key query keys v before is same was =
    ap (λ b. not (not b && list_all (λ k. not (k == query)) keys)) is ∙ was ∙ sym (ap (λ b. is_some (cond b (Some v) before)) same)

-- a key is among those given where it is in the table, once one more is put
pub given_more : {V : Type 0} (key query : ℕ) (keys : List ℕ) (v : V) (before : Option V) → is_key_of query keys ≡ is_some before
    → is_key_of query (key ∷ keys) ≡ is_some (cond (is_eq (nat_cmp key query)) (Some v) before)
given_more key query keys v before was =
    elim (eqb_tells key query) [
      | inl same ↦ given_by true key query keys v before same.0 (ap is_eq (sym (nat_cmp_is key query Equal same.1))) was
      | inr differ ↦ given_by false key query keys v before differ.0 (apart key query differ.1) was
    ]
