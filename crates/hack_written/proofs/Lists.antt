-- Walks over a list with one more element at its end.
use Rattle.std.proofs.Common.{◌≡◌, ◌≢◌, ◌==◌, ◌∙◌, ◌&&◌, ◌≤◌, ◌⊎◌, ℕ, zero, suc, Bool, true, false, cond, not, Option, Some, List, [], ◌∷◌, ◌++◌, length, take, is_some, refl, sym, ap, arith, inl, inr}
use Rattle.std.proofs.lemmas.Bool.{cases_lt}
use Rattle.std.proofs.lemmas.Bool.Decides.{eqb_tells}
use Rattle.std.specs.BTreeMap.{insert_entry}
use Rattle.std.specs.Cmp.{nat_cmp_is}
use Rattle.std.specs.List.{list_all}
use Rattle.std.specs.Ordering.{is_eq, nat_cmp}
use Rattle.std.specs.declared.cmp.Ordering.TheVariants.{Less, Equal, Greater}
use Rattle.hack_types.specs.declared.fields.Field.{Field}
use Rattle.hack_types.specs.declared.hack_type.HackType.{HackType}
use Rattle.hack_shallow.specs.Resolved.{with_fields}
use Rattle.hack_decls.specs.DeclState.{Map}
use Rattle.hack_diag.specs.Messages.{field_twice}
use Rattle.hack_rules.specs.Walks.{Setting, State, Walk, ◌>>=◌, ◌>>◌, for_each, for_pairs, pure, unless}
use Rattle.hack_rules.specs.WrittenTypes.{FieldMention, fields_checks, is_key_of}

-- the keys that were given, once these fields were
abbrev pub keys_after : List ℕ → List FieldMention → List ℕ
keys_after keys [] = keys
keys_after keys (field ∷ fields) = keys_after (field.key ∷ keys) fields

-- of a field behind these keys
abbrev pub field_checks : List ℕ → FieldMention → Bool → Walk (Unit {0})
field_checks keys field bounds = unless (not (is_key_of field.key keys)) field.at (field_twice field.key) >> field.value.checks bounds

module _ (setting : Setting) (m : Map) where
  pub for_each_more : {A : Type 0} (f : A → Walk (Unit {0})) (xs : List A) (x : A) (s : State)
      → for_each f (xs ++ x ∷ []) setting m s ≡ f x setting m (for_each f xs setting m s).1
  unfolding for_each ◌>>◌ ◌>>=◌ pure
  for_each_more f [] x s = refl
  for_each_more f (y ∷ ys) x s = for_each_more f ys x (f y setting m s).1

  pub for_pairs_more : {A B : Type 0} (f : A → B → Walk (Unit {0})) (xs : List A) (ys : List B) (x : A) (y : B) (s : State) → length xs ≡ length ys
      → for_pairs f (xs ++ x ∷ []) (ys ++ y ∷ []) setting m s ≡ f x y setting m (for_pairs f xs ys setting m s).1
  unfolding for_pairs ◌>>◌ ◌>>=◌ pure
  for_pairs_more f [] [] x y s e = refl
  for_pairs_more f [] (b ∷ ys) x y s e = absurd (omega (arith, e))
  for_pairs_more f (a ∷ xs) [] x y s e = absurd (omega (arith, e))
  for_pairs_more f (a ∷ xs) (b ∷ ys) x y s e = for_pairs_more f xs ys x y (f a b setting m s).1 (omega (arith, e))

  pub fields_more : (keys : List ℕ) (fields : List FieldMention) (field : FieldMention) (bounds : Bool) (s : State)
      → fields_checks keys (fields ++ field ∷ []) bounds setting m s ≡ field_checks (keys_after keys fields) field bounds setting m (fields_checks keys fields bounds setting m s).1
  unfolding fields_checks ◌>>◌ ◌>>=◌ pure
  fields_more keys [] field bounds s = refl
  fields_more keys (f ∷ fs) field bounds s = fields_more (f.key ∷ keys) fs field bounds (field_checks keys f bounds setting m s).1

pub after_more : (keys : List ℕ) (fields : List FieldMention) (field : FieldMention) → keys_after keys (fields ++ field ∷ []) ≡ field.key ∷ keys_after keys fields
after_more keys [] field = refl
after_more keys (f ∷ fs) field = after_more (f.key ∷ keys) fs field

pub with_more : (entries : List (ℕ × (Bool × HackType))) (fields : List (Field HackType)) (field : Field HackType)
    → with_fields entries (fields ++ field ∷ []) ≡ insert_entry nat_cmp (with_fields entries fields) field.key (field.optional, field.ty)
with_more entries [] field = refl
with_more entries (f ∷ fs) field = with_more (insert_entry nat_cmp entries f.key (f.optional, f.ty)) fs field

-- ---- keys

apart : (key query : ℕ) → key ≢ query → is_eq (nat_cmp key query) ≡ false
apart key query ne =
    elim (cases_lt key query) [
      | inl below ↦ ap is_eq (sym (nat_cmp_is key query Less below))
      | inr others ↦ elim (cases_lt query key) [
        | inl above ↦ ap is_eq (sym (nat_cmp_is key query Greater above))
        | inr equal ↦ absurd (ne (omega (arith, others, equal)))
      ]
    ]

given_by : {V : Type 0} (b : Bool) (key query : ℕ) (keys : List ℕ) (v : V) (before : Option V) → (key == query) ≡ b → is_eq (nat_cmp key query) ≡ b
    → is_key_of query keys ≡ is_some before → is_key_of query (key ∷ keys) ≡ is_some (cond (is_eq (nat_cmp key query)) (Some v) before)
given_by true key query keys v before is same was =
    ap (λ b. not (not b && list_all (λ k. not (k == query)) keys)) is ∙ sym (ap (λ b. is_some (cond b (Some v) before)) same)
given_by false key query keys v before is same was =
    ap (λ b. not (not b && list_all (λ k. not (k == query)) keys)) is ∙ was ∙ sym (ap (λ b. is_some (cond b (Some v) before)) same)

-- a key is among those given where it is in the table, once one more is put
pub given_more : {V : Type 0} (key query : ℕ) (keys : List ℕ) (v : V) (before : Option V) → is_key_of query keys ≡ is_some before
    → is_key_of query (key ∷ keys) ≡ is_some (cond (is_eq (nat_cmp key query)) (Some v) before)
given_more key query keys v before was =
    elim (eqb_tells key query) [
      | inl same ↦ given_by true key query keys v before same.0 (ap is_eq (sym (nat_cmp_is key query Equal same.1))) was
      | inr differ ↦ given_by false key query keys v before differ.0 (apart key query differ.1) was
    ]

-- ---- pairs

module _ {A B : Type 0} (f : A → B → Walk (Unit {0})) where
  -- as far as both lists go
  pub pairs_end : (xs : List A) (ys : List B) (n : ℕ) → n ≤ length xs → n ≤ length ys → (length xs ≤ n) ⊎ (length ys ≤ n)
      → for_pairs f (take n xs) (take n ys) ≡ for_pairs f xs ys
  unfolding for_pairs
  pairs_end [] ys zero lx ly e = refl
  pairs_end [] ys (suc n) lx ly e = absurd (omega (arith, lx))
  pairs_end (x ∷ xs) [] zero lx ly e = refl
  pairs_end (x ∷ xs) [] (suc n) lx ly e = absurd (omega (arith, ly))
  pairs_end (x ∷ xs) (y ∷ ys) zero lx ly (inl e) = absurd (omega (arith, e))
  pairs_end (x ∷ xs) (y ∷ ys) zero lx ly (inr e) = absurd (omega (arith, e))
  pairs_end (x ∷ xs) (y ∷ ys) (suc n) lx ly (inl e) = ap (λ (w : Walk (Unit {0})). f x y >> w) (pairs_end xs ys n (omega (arith, lx)) (omega (arith, ly)) (inl (omega (arith, e))))
  pairs_end (x ∷ xs) (y ∷ ys) (suc n) lx ly (inr e) = ap (λ (w : Walk (Unit {0})). f x y >> w) (pairs_end xs ys n (omega (arith, lx)) (omega (arith, ly)) (inr (omega (arith, e))))
