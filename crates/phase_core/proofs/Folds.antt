-- The fold edges from a symbol stand together in the order of edges.
use Rattle.std.proofs.Common.{◌≡◌, ◌↔◌, ◌<◌, inl, inr, refl, sym, ap, ◌∙◌, subst, ℕ, suc, Bool, true, false, cond, ◌&&◌, ◌||◌, List, [], ◌∷◌, map, length, take, arith, ◌+◌}
use Rattle.std.specs.Prelude.{IsTrue, Contains}
use Rattle.std.specs.BTreeSet as sorted
use Rattle.std.specs.BTreeMap.Range.{range_contains}
use Rattle.std.specs.Cmp.{IsTotalOrder}
use Rattle.std.specs.FinMap.{IsAntisymmetric}
use Rattle.std.specs.FinSet as set
use Rattle.std.specs.List.{list_any, filter, take_while, prefix_len, AllByRecursion}
use Rattle.std.specs.List.Sorted.{IsStrictlySortedBy}
use Rattle.std.specs.Ordering.{eq_by_cmp, is_eq, is_le, bool_cmp, ordering_then, ordering_reverse, nat_cmp}
use Rattle.std.specs.declared.cmp.Ordering.{Ordering}
use Rattle.std.specs.declared.cmp.Ordering.TheVariants.{Less, Equal, Greater}
use Rattle.std.specs.declared.ops.Bound.TheVariants.{Included, Unbounded}
use Rattle.std.specs.Cmp.{unsigned_tied}
use Rattle.std.specs.FinSet.{contains-from_list}
use Rattle.std.proofs.lemmas.Cmp.{tied_itself, eq_by_cmp_equiv, ranked}
use Rattle.std.proofs.lemmas.List.Folds.{list_any_at}
use Rattle.hack_types.specs.declared.ids.Kind.{Kind}
use Rattle.hack_types.specs.declared.ids.Kind.TheVariants.{Class, Func, Const}
use Rattle.hack_types.specs.declared.ids.SymbolId.{SymbolId}
use Rattle.phase_core.specs.declared.edge.CoreEdge.{CoreEdge}
use Rattle.phase_core.specs.Orders.{symbol_order, kind_order}
use Rattle.phase_core.specs.EdgeOrder.{edge_order}
use Rattle.phase_core.specs.Inside.{symbol_eq, is_fold_from, first_fold, folds_behind}
use Rattle.phase_core.proofs.Orders.{symbol_total, symbol_same, edge_total, decided}

-- ---- what is in a list

module _ {K : Type 0} {R : K → K → Ordering} (total : IsTotalOrder R) (same : IsAntisymmetric R) where
  pub from_any : (xs : List K) (q : K) → list_any (eq_by_cmp R q) xs ≡ true → Contains xs q
  from_any [] q e = absurd cc
  from_any (x ∷ xs) q e =
      elim (decided total same q x) [
        | inl h ↦ (0, omega arith, sym h.0)
        | inr h ↦
            let rest : list_any (eq_by_cmp R q) xs ≡ true = subst (λ b. (b || list_any (eq_by_cmp R q) xs) ≡ true) h.1 e in
            let r = from_any xs q rest in
            let l : r.0 < length xs = r.1 in
            (suc r.0, omega arith, r.2)
      ]

  pub to_any : (xs : List K) (q : K) → Contains xs q → list_any (eq_by_cmp R q) xs ≡ true
  to_any xs q h = list_any_at (eq_by_cmp R q) xs h.0 q h.1 (subst (λ z. eq_by_cmp R q z ≡ true) (sym h.2) (ap is_eq (tied_itself total q)))

-- ---- symbols by `==`

by_parts : (a b : Kind) (n m : ℕ) → symbol_eq (record { kind = a; name = n }) (record { kind = b; name = m }) ≡ eq_by_cmp symbol_order (record { kind = a; name = n }) (record { kind = b; name = m })
by_parts Class Class n m = sym (unsigned_tied n m)
by_parts Func Func n m = sym (unsigned_tied n m)
by_parts Const Const n m = sym (unsigned_tied n m)
by_parts Class Func n m = refl
by_parts Class Const n m = refl
by_parts Func Class n m = refl
by_parts Func Const n m = refl
by_parts Const Class n m = refl
by_parts Const Func n m = refl

pub symbol_eq_order : (x y : SymbolId) → symbol_eq x y ≡ eq_by_cmp symbol_order x y
symbol_eq_order x y = by_parts x.kind y.kind x.name y.name

-- ---- orders alone

le_then : (a b c : Ordering) → a ≡ Equal → b ≡ Equal → is_le c ≡ true → (is_le (ordering_then a (ordering_then b c)) && true) ≡ true
le_then Less b c p q r = absurd cc
le_then Greater b c p q r = absurd cc
le_then Equal Less c p q r = absurd cc
le_then Equal Greater c p q r = absurd cc
le_then Equal Equal Less p q r = refl
le_then Equal Equal Equal p q r = refl
le_then Equal Equal Greater p q r = absurd cc

clash : (f : Bool) (o u v : Ordering) → ordering_then (bool_cmp f true) (ordering_then (ordering_reverse o) u) ≡ Less
    → (is_le (ordering_then (bool_cmp true f) (ordering_then o v)) && true) ≡ true → (f && is_eq o) ≡ false → ⊥
clash false o u v p q r = absurd cc
clash true Less u v p q r = absurd cc
clash true Equal u v p q r = absurd cc
clash true Greater u v p q r = absurd cc

tie : (f : Bool) (o u : Ordering) → (f && is_eq o) ≡ true → is_eq (ordering_then (bool_cmp true f) (ordering_then o u)) ≡ is_eq u
tie false o u p = absurd cc
tie true Less u p = absurd cc
tie true Equal u p = refl
tie true Greater u p = absurd cc

untie : (f : Bool) (o u : Ordering) → (f && is_eq o) ≡ false → is_eq (ordering_then (bool_cmp true f) (ordering_then o u)) ≡ false
untie false o u p = refl
untie true Less u p = refl
untie true Equal u p = absurd cc
untie true Greater u p = refl

halves : (f : Bool) (o : Ordering) → (f && is_eq o) ≡ true → (f ≡ true) × (o ≡ Equal)
halves false o p = absurd cc
halves true Less p = absurd cc
halves true Equal p = (refl, refl)
halves true Greater p = absurd cc

first_number : (n : ℕ) (r : Ordering) → r ≡ nat_cmp 0 n → is_le r ≡ true
first_number n Less e = refl
first_number n Equal e = refl
first_number n Greater e = absurd (omega (arith, ranked 0 n Greater e))

least_by : (k : Kind) (n : ℕ) → is_le (ordering_then (kind_order Class k) (nat_cmp 0 n)) ≡ true
least_by Class n = first_number n (nat_cmp 0 n) refl
least_by Func n = refl
least_by Const n = refl

take_one : {X : Type 0} (n : ℕ) (x : X) (xs : List X) → take (1 + n) (x ∷ xs) ≡ x ∷ take n xs
take_one n x xs =
    let e : 1 + n ≡ suc n = omega arith in
    ap (λ k. take k (x ∷ xs)) e

-- ---- the edges from a symbol

module _ (from : SymbolId) where
  abbrev is_behind : CoreEdge → Bool
  is_behind e = range_contains edge_order (Included (first_fold from)) Unbounded e

  parts : (e : CoreEdge) → is_fold_from from e ≡ (e.fold && is_eq (symbol_order from e.from))
  parts e = ap (λ b. e.fold && b) (symbol_eq_order e.from from ∙ (eq_by_cmp_equiv symbol_total).symm e.from from)

  -- the edges from the symbol are behind the first that could be one
  inside : (e : CoreEdge) → is_fold_from from e ≡ true → is_behind e ≡ true
  inside e h =
      let both = halves e.fold (symbol_order from e.from) (sym (parts e) ∙ h) in
      le_then _ _ _ (ap (bool_cmp true) both.0) both.1 (least_by e.to.kind e.to.name)

  -- behind an edge that is behind the first, and isn't one, there is none
  past : (e x : CoreEdge) → is_behind e ≡ true → is_fold_from from e ≡ false → edge_order e x ≡ Less → is_fold_from from x ≡ false
  past e x behind not less = by (is_fold_from from x) refl
    where
      by : (b : Bool) → is_fold_from from x ≡ b → is_fold_from from x ≡ false
      by false h = h
      by true h =
          let both = halves x.fold (symbol_order from x.from) (sym (parts x) ∙ h) in
          let at : from ≡ x.from = symbol_same from x.from both.1 in
          let less2 : ordering_then (bool_cmp e.fold true) (ordering_then (symbol_order e.from from) (symbol_order e.to x.to)) ≡ Less =
          subst (λ s. ordering_then (bool_cmp e.fold true) (ordering_then (symbol_order e.from s) (symbol_order e.to x.to)) ≡ Less) (sym at)
          (subst (λ f. ordering_then (bool_cmp e.fold f) (ordering_then (symbol_order e.from x.from) (symbol_order e.to x.to)) ≡ Less) both.0 less) in
          let less3 : ordering_then (bool_cmp e.fold true) (ordering_then (ordering_reverse (symbol_order from e.from)) (symbol_order e.to x.to)) ≡ Less =
          subst (λ o. ordering_then (bool_cmp e.fold true) (ordering_then o (symbol_order e.to x.to)) ≡ Less) (symbol_total.antisymm e.from from) less2 in
          absurd (clash e.fold (symbol_order from e.from) _ _ less3 behind (sym (parts e) ∙ not))

  none : (e : CoreEdge) → is_behind e ≡ true → is_fold_from from e ≡ false → (es : List CoreEdge) → AllByRecursion (λ x. edge_order e x ≡ Less) es → filter (is_fold_from from) es ≡ []
  none e behind not [] all = refl
  none e behind not (x ∷ es) all =
      ap (λ b. cond b (x ∷ filter (is_fold_from from) es) (filter (is_fold_from from) es)) (past e x behind not all.0) ∙ none e behind not es all.1

  together : (es : List CoreEdge) → IsStrictlySortedBy edge_order es → take_while (is_fold_from from) (filter is_behind es) ≡ filter (is_fold_from from) es
  unfolding IsStrictlySortedBy
  together [] s = refl
  together (e ∷ es) s = by (together es s.1) (is_fold_from from e) refl (is_behind e) refl
    where
      by : take_while (is_fold_from from) (filter is_behind es) ≡ filter (is_fold_from from) es → (p : Bool) → is_fold_from from e ≡ p → (q : Bool) → is_behind e ≡ q
          → take_while (is_fold_from from) (cond (is_behind e) (e ∷ filter is_behind es) (filter is_behind es)) ≡ cond (is_fold_from from e) (e ∷ filter (is_fold_from from) es) (filter (is_fold_from from) es)
      by rest true hp false hq = absurd (let h = inside e hp in cc)
      by rest true hp true hq =
          ap (λ b. take_while (is_fold_from from) (cond b (e ∷ filter is_behind es) (filter is_behind es))) hq
          ∙ ap (λ b. take (cond b (1 + prefix_len (is_fold_from from) (filter is_behind es)) 0) (e ∷ filter is_behind es)) hp
          ∙ take_one _ e (filter is_behind es) ∙ ap (λ xs. e ∷ xs) rest
          ∙ sym (ap (λ b. cond b (e ∷ filter (is_fold_from from) es) (filter (is_fold_from from) es)) hp)
      by rest false hp false hq =
          ap (λ b. take_while (is_fold_from from) (cond b (e ∷ filter is_behind es) (filter is_behind es))) hq ∙ rest
          ∙ sym (ap (λ b. cond b (e ∷ filter (is_fold_from from) es) (filter (is_fold_from from) es)) hp)
      by rest false hp true hq =
          ap (λ b. take_while (is_fold_from from) (cond b (e ∷ filter is_behind es) (filter is_behind es))) hq
          ∙ ap (λ b. take (cond b (1 + prefix_len (is_fold_from from) (filter is_behind es)) 0) (e ∷ filter is_behind es)) hp
          ∙ sym (none e hq hp es s.0)
          ∙ sym (ap (λ b. cond b (e ∷ filter (is_fold_from from) es) (filter (is_fold_from from) es)) hp)

  -- the targets have a symbol exactly where the edge to it is there
  among : (es : List CoreEdge) (t : SymbolId) → list_any (eq_by_cmp symbol_order t) (map (λ e. e.to) (filter (is_fold_from from) es)) ≡ list_any (eq_by_cmp edge_order (record { fold = true; from = from; to = t })) es
  among [] t = refl
  among (e ∷ es) t = by (among es t) (is_fold_from from e) refl
    where
      by : list_any (eq_by_cmp symbol_order t) (map (λ (x : CoreEdge). x.to) (filter (is_fold_from from) es)) ≡ list_any (eq_by_cmp edge_order (record { fold = true; from = from; to = t })) es → (p : Bool) → is_fold_from from e ≡ p
          → list_any (eq_by_cmp symbol_order t) (map (λ (x : CoreEdge). x.to) (cond (is_fold_from from e) (e ∷ filter (is_fold_from from) es) (filter (is_fold_from from) es)))
          ≡ (eq_by_cmp edge_order (record { fold = true; from = from; to = t }) e || list_any (eq_by_cmp edge_order (record { fold = true; from = from; to = t })) es)
      by rest true hp =
          ap (λ b. list_any (eq_by_cmp symbol_order t) (map (λ (x : CoreEdge). x.to) (cond b (e ∷ filter (is_fold_from from) es) (filter (is_fold_from from) es)))) hp
          ∙ ap (λ b. eq_by_cmp symbol_order t e.to || b) rest
          ∙ ap (λ b. b || list_any (eq_by_cmp edge_order (record { fold = true; from = from; to = t })) es) (sym (tie e.fold (symbol_order from e.from) (symbol_order t e.to) (sym (parts e) ∙ hp)))
      by rest false hp =
          ap (λ b. list_any (eq_by_cmp symbol_order t) (map (λ (x : CoreEdge). x.to) (cond b (e ∷ filter (is_fold_from from) es) (filter (is_fold_from from) es)))) hp
          ∙ rest
          ∙ ap (λ b. b || list_any (eq_by_cmp edge_order (record { fold = true; from = from; to = t })) es) (sym (untie e.fold (symbol_order from e.from) (symbol_order t e.to) (sym (parts e) ∙ hp)))

  pub folds_found : (s : sorted.BTreeSet CoreEdge) (ts : List SymbolId) → sorted.IsOrdered edge_order s → ts ≡ folds_behind from s.keys → (t : SymbolId)
      → Contains ts t ↔ IsTrue (set.contains (set.from_list {R = edge_order} s.keys) (record { fold = true; from = from; to = t }))
  folds_found s ts ordered is t =
      let all : ts ≡ map (λ (x : CoreEdge). x.to) (filter (is_fold_from from) s.keys) = is ∙ ap (map (λ (x : CoreEdge). x.to)) (together s.keys ordered) in
      let one : list_any (eq_by_cmp symbol_order t) ts ≡ set.contains (set.from_list {R = edge_order} s.keys) (record { fold = true; from = from; to = t }) =
      ap (list_any (eq_by_cmp symbol_order t)) all ∙ among s.keys t ∙ sym (contains-from_list edge_total s.keys _) in
      (λ h. sym one ∙ to_any symbol_total symbol_same ts t h, λ h. from_any symbol_total symbol_same ts t (one ∙ h))
