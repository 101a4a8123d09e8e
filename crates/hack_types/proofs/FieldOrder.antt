-- The fields of a shape in the order of their keys: how the code makes it, and what it keeps.
use Rattle.std.proofs.Common.{◌≡◌, ◌+◌, ◌<◌, ◌≤◌, max, ℕ, List, [], ◌∷◌, All, length, map, take, get_or, Bor, refl, sym, ap, subst, ◌∙◌, arith}
use denote.Param.Weighed.{most, at_most}
use Rattle.std.specs.declared.cmp.Ordering.{Ordering}
use Rattle.std.specs.declared.cmp.Ordering.TheVariants.{Less, Equal, Greater}
use Rattle.std.specs.List.{fold}
use Rattle.std.specs.Ordering.{match_ordering, nat_cmp}
use Rattle.std.specs.Cmp.Lexicographic.{slice_cmp}
use Rattle.std.specs.Map.{values_of}
use Rattle.std.specs.BTreeMap.{insert_entry}
use Rattle.std.proofs.lemmas.List.{length-map}
use Rattle.std.proofs.Math.ListN.{get_or-map}
use Rattle.std.proofs.lemmas.List.Elements.{All-head, All-tail}
use Rattle.std.proofs.lemmas.List.Sums.{fold_more}
use Rattle.std.proofs.lemmas.Map.Views.{All-values-insert_entry}
use Rattle.hack_base.specs.Files.{byte_order}
use Rattle.hack_types.specs.declared.fields.Field.{Field}
use Rattle.hack_types.specs.declared.hack_type.HackType.{HackType}
use Rattle.hack_types.specs.formers.fields.Fields.{on_type}
use Rattle.hack_types.specs.TypeText.{by_key, name_text, placed}
use Rattle.hack_types.proofs.hack_type.HackType.TheLaws.{the_size}

chosen : {A B : Type 0} (h : A → B) (o : Ordering) (a b c : A) → h (match_ordering o a b c) ≡ match_ordering o (h a) (h b) (h c)
chosen h Less a b c = refl
chosen h Equal a b c = refl
chosen h Greater a b c = refl

module _ {K L X Y : Type 0} (f : K → L) (g : X → Y) where
  -- an entry with f applied to its key and g to its value
  abbrev pub on_entry : K × X → L × Y
  on_entry entry = (f entry.0, g entry.1)

  module _ (R : K → K → Ordering) (S : L → L → Ordering) (same : (a b : K) → S (f a) (f b) ≡ R a b) where
    pub insert_entry_mapped : (es : List (K × X)) (k : K) (v : X) → map on_entry (insert_entry R es k v) ≡ insert_entry S (map on_entry es) (f k) (g v)
    insert_entry_mapped [] k v = refl
    insert_entry_mapped (e ∷ es) k v = chosen (map on_entry) (R k e.0) _ _ _
        ∙ (λ i. match_ordering (sym (same k e.0) i) ((f k, g v) ∷ on_entry e ∷ map on_entry es) ((f e.0, g v) ∷ map on_entry es) (on_entry e ∷ insert_entry_mapped es k v i))

module _ {T : Type 0} (names : List (List ℕ)) where
  abbrev pub place : List (List ℕ × Field T) → Field T → List (List ℕ × Field T)
  place entries field = insert_entry byte_order entries (name_text names field.key) field

  abbrev pub read : Bor (List ℕ) × Bor (Field T) → List ℕ × Field T
  read entry = (entry.0.now, entry.1.now)

  pub placed_more : (fields : List (Field T)) (i : ℕ) (entries : List (Bor (List ℕ) × Bor (Field T))) (key : Bor (List ℕ)) (field : Bor (Field T))
      → i < length fields → key.now ≡ name_text names field.now.key → field.now ≡ get_or fields i field.now
      → map read entries ≡ placed names (take i fields)
      → map read (insert_entry (λ x y. slice_cmp nat_cmp x.now y.now) entries key field) ≡ placed names (take (i + 1) fields)
  placed_more fields i entries key field lt found at before =
      insert_entry_mapped (λ k. k.now) (λ v. v.now) (λ x y. slice_cmp nat_cmp x.now y.now) byte_order (λ a b. refl) entries key field
      ∙ (λ j. insert_entry byte_order (before j) (found j) field.now)
      ∙ (λ j. place (placed names (take i fields)) (at j))
      ∙ sym (fold_more place [] fields i field.now lt)

  pub values_read : (entries : List (Bor (List ℕ) × Bor (Field T))) → map (λ field. field.now) (values_of entries) ≡ values_of (map read entries)
  values_read [] = refl
  values_read (entry ∷ entries) = ap (λ fields. entry.1.now ∷ fields) (values_read entries)

-- the types of the fields may be replaced before they are put in order, or behind
module _ {X Y : Type 0} (h : X → Y) (names : List (List ℕ)) where
  abbrev typed : List ℕ × Field X → List ℕ × Field Y
  typed = on_entry (λ key. key) (on_type h)

  placed_from : (entries : List (List ℕ × Field X)) (fields : List (Field X)) → fold (place names) (map typed entries) (map (on_type h) fields) ≡ map typed (fold (place names) entries fields)
  placed_from entries [] = refl
  placed_from entries (f ∷ fs) =
      ap (λ es. fold (place names) es (map (on_type h) fs)) (sym (insert_entry_mapped (λ key. key) (on_type h) byte_order byte_order (λ a b. refl) entries (name_text names f.key) f))
      ∙ placed_from (place names entries f) fs

  values_typed : (entries : List (List ℕ × Field X)) → values_of (map typed entries) ≡ map (on_type h) (values_of entries)
  values_typed [] = refl
  values_typed (entry ∷ entries) = ap (λ fields. on_type h entry.1 ∷ fields) (values_typed entries)

  pub by_key_typed : (fields : List (Field X)) → by_key names (map (on_type h) fields) ≡ map (on_type h) (by_key names fields)
  by_key_typed fields = ap values_of (placed_from [] fields) ∙ values_typed (placed names fields)

-- what holds of each field holds of each in their order
module _ (P : Field HackType → Type 0) (names : List (List ℕ)) where
  kept_from : (entries : List (List ℕ × Field HackType)) → All P (values_of entries) → (fields : List (Field HackType)) → All P fields → All P (values_of (fold (place names) entries fields))
  kept_from entries before [] all = before
  kept_from entries before (f ∷ fs) all = kept_from (place names entries f)
      (All-values-insert_entry byte_order (name_text names f.key) f P entries before (All-head P f fs all)) fs (All-tail P f fs all)

  pub kept : (fields : List (Field HackType)) → All P fields → All P (by_key names fields)
  kept fields all = kept_from [] (λ k d lt. absurd (omega (arith, lt))) fields all

abbrev pub depth : Field HackType → ℕ
depth field = max 0 (the_size field.ty)

-- a field of a shape is no deeper than the deepest
pub inside : (names : List (List ℕ)) (fields : List (Field HackType)) (ordered items : List (Bor (Field HackType))) (i : ℕ) (field : Bor (Field HackType))
    → map (λ f. f.now) ordered ≡ by_key names fields → items ≡ ordered → i < length items → field ≡ get_or items i field → depth field.now ≤ most depth fields
inside names fields ordered items i field order same lt is =
    let P : Field HackType → Type 0 = λ f. depth f ≤ most depth fields in
    let found : All P (map (λ f. f.now) items) = subst (All P) (sym (ap (map (λ f. f.now)) same ∙ order)) (kept P names fields (at_most depth fields)) in
    subst P (get_or-map (λ f. f.now) items i field ∙ ap (λ f. f.now) (sym is)) (found i field.now (subst (λ n. i < n) (sym (length-map items (λ f. f.now))) lt))
