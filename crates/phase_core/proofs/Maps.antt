-- Trees as finite maps and sets.
use Rattle.std.proofs.Common.{◌≡◌, ◌≢◌, ◌⊎◌, ◌↔◌, inl, inr, refl, sym, ap, ◌∙◌, subst, Bool, true, false, cond, not, ◌&&◌, ◌||◌, List, [], ◌∷◌, Some}
use Rattle.std.specs.Prelude.{IsTrue, IsSome, Contains}
use Rattle.std.specs.BTreeMap as tree
use Rattle.std.specs.BTreeSet as sorted
use Rattle.std.specs.Cmp.{IsTotalOrder}
use Rattle.std.specs.FinMap as finite
use Rattle.std.specs.FinMap.{IsAntisymmetric, find, get-from_entries, get-insert, same_map}
use Rattle.std.specs.FinSet as set
use Rattle.std.specs.FinSet.{contains-from_list, contains-insert, contains-remove, same_set}
use Rattle.std.specs.Map.{lookup}
use Rattle.std.specs.Ordering.{eq_by_cmp, is_eq}
use Rattle.std.specs.declared.cmp.Ordering.{Ordering}
use Rattle.std.proofs.lemmas.Cmp.{eq_by_cmp_equiv}
use Rattle.std.proofs.lemmas.Map.Views.{btree_map_contains_key_iff, btree_set_contains_iff}
use Rattle.phase_core.proofs.Orders.{decided}

module _ {K : Type 0} {R : K → K → Ordering} (total : IsTotalOrder R) (same : IsAntisymmetric R) where
  -- ---- maps

  module _ {V : Type 0} where
    found : (es : List (K × V)) (q : K) → find R q es ≡ lookup (tree.is_at (R q)) es
    found [] q = refl
    found (e ∷ es) q = ap (cond (is_eq (R q e.0)) (Some e.1)) (found es q)

    pub get_tree : (m : tree.BTreeMap K V) (q : K) → finite.get (finite.from_entries {R = R} m.entries) q ≡ tree.get R m q
    get_tree m q = get-from_entries total m.entries q ∙ found m.entries q

    pub insert_tree : (m n : tree.BTreeMap K V) (k : K) (v : V) → tree.Updates R m n k (Some v) → finite.from_entries {R = R} n.entries ≡ finite.insert (finite.from_entries m.entries) k v
    insert_tree m n k v h =
        same_map total same _ _ (λ q.
        get_tree n q ∙ h.0 q ∙ ap (λ b. cond b (Some v) (tree.get R m q)) ((eq_by_cmp_equiv total).symm k q)
        ∙ sym (get-insert total (finite.from_entries m.entries) k v q ∙ ap (cond (eq_by_cmp R q k) (Some v)) (get_tree m q)))

    pub keys_tree : (m : tree.BTreeMap K V) (ks : List K) → ks ≡ tree.keys m → (q : K) → Contains ks q ↔ IsSome (finite.get (finite.from_entries {R = R} m.entries) q)
    keys_tree m ks is q =
        let both = btree_map_contains_key_iff total same m q in
        (λ h. subst IsSome (sym (get_tree m q)) (both.1 (subst (λ xs. Contains xs q) is h)), λ h. subst (λ xs. Contains xs q) (sym is) (both.0 (subst IsSome (get_tree m q) h)))

  -- ---- sets

  pub contains_tree : (s : sorted.BTreeSet K) (q : K) → set.contains (set.from_list {R = R} s.keys) q ≡ sorted.contains R s q
  contains_tree s q = contains-from_list total s.keys q

  pub insert_set : (s n : sorted.BTreeSet K) (k : K) → sorted.Updates R s n k true → set.from_list {R = R} n.keys ≡ set.insert (set.from_list s.keys) k
  insert_set s n k h =
      same_set total same _ _ (λ q.
      contains_tree n q ∙ h.0 q ∙ by (is_eq (R k q)) (sorted.contains R s q) ∙ ap (λ b. b || sorted.contains R s q) ((eq_by_cmp_equiv total).symm k q)
      ∙ sym (contains-insert total (set.from_list s.keys) k q ∙ ap (λ b. eq_by_cmp R q k || b) (contains_tree s q)))
    where
      by : (a b : Bool) → cond a true b ≡ (a || b)
      by true b = refl
      by false b = refl

  pub remove_set : (s n : sorted.BTreeSet K) (k : K) → sorted.Updates R s n k false → set.from_list {R = R} n.keys ≡ set.remove (set.from_list s.keys) k
  remove_set s n k h =
      same_set total same _ _ (λ q.
      contains_tree n q ∙ h.0 q ∙ by (is_eq (R k q)) (sorted.contains R s q) ∙ ap (λ b. not b && sorted.contains R s q) ((eq_by_cmp_equiv total).symm k q)
      ∙ sym (contains-remove total (set.from_list s.keys) k q ∙ ap (λ b. not (eq_by_cmp R q k) && b) (contains_tree s q)))
    where
      by : (a b : Bool) → cond a false b ≡ (not a && b)
      by true b = refl
      by false b = refl

  pub keys_set : (s : sorted.BTreeSet K) (ks : List K) → ks ≡ s.keys → (q : K) → Contains ks q ↔ IsTrue (set.contains (set.from_list {R = R} s.keys) q)
  keys_set s ks is q =
      let both = btree_set_contains_iff total same s q in
      (λ h. subst IsTrue (sym (contains_tree s q)) (both.1 (subst (λ xs. Contains xs q) is h)), λ h. subst (λ xs. Contains xs q) (sym is) (both.0 (subst IsTrue (contains_tree s q) h)))

  -- ---- what is there after one is put

  pub insert_cases : {V : Type 0} (m : finite.FinMap R V) (k : K) (v : V) (q : K)
      → ((q ≡ k) × (finite.get (finite.insert m k v) q ≡ Some v)) ⊎ ((q ≢ k) × (finite.get (finite.insert m k v) q ≡ finite.get m q))
  insert_cases m k v q =
      elim (decided total same q k) [
        | inl h ↦ inl (h.0, get-insert total m k v q ∙ ap (λ b. cond b (Some v) (finite.get m q)) h.1)
        | inr h ↦ inr (h.0, get-insert total m k v q ∙ ap (λ b. cond b (Some v) (finite.get m q)) h.1)
      ]

  pub set_cases : (s : set.FinSet R) (k q : K)
      → ((q ≡ k) × (set.contains (set.insert s k) q ≡ true)) ⊎ ((q ≢ k) × (set.contains (set.insert s k) q ≡ set.contains s q))
  set_cases s k q =
      elim (decided total same q k) [
        | inl h ↦ inl (h.0, contains-insert total s k q ∙ ap (λ b. b || set.contains s q) h.1)
        | inr h ↦ inr (h.0, contains-insert total s k q ∙ ap (λ b. b || set.contains s q) h.1)
      ]
