-- A walk over links meets what is reached.
use Rattle.std.proofs.Common.{◌≡◌, ◌≢◌, ◌⊎◌, ◌↔◌, ◌<◌, ◌≤◌, inl, inr, refl, sym, ap, ◌∙◌, subst, ℕ, ◌+◌, true, false, List, [], ◌∷◌, ◌++◌, take, length, get_or, append_assoc, arith}
use Rattle.std.specs.Prelude.{Contains}
use Rattle.std.specs.FinSet as set
use Rattle.std.specs.FinSet.{contains-empty}
use Rattle.std.proofs.lemmas.List.{take-append-le, append-nil}
use Rattle.std.proofs.lemmas.List.Elements.{Contains-append_left, Contains-push, Contains-push_cases}
use Rattle.hack_types.specs.declared.ids.SymbolId.{SymbolId}
use Rattle.phase_core.specs.declared.closure.Reached.{Reached}
use Rattle.phase_core.specs.Orders.{symbol_order}
use Rattle.phase_core.specs.Closures.{IsPath, Reaches}
use Rattle.phase_core.specs.Reached.{Added, IsReach, Reaching}
use Rattle.phase_core.proofs.Orders.{symbol_total, symbol_same}
use Rattle.phase_core.proofs.Maps.{set_cases}
use Rattle.phase_core.proofs.Lists.{in_none, in_more, in_before, in_now, in_whole}

-- ---- one that is added

pub added_none : (r : Reached) (xs : List SymbolId) → Added r (take 0 xs) r
added_none r xs = record {
  grows = ([], sym (append-nil r.symbols.items));
  matches = λ h. h;
  has = λ s h. elim h [ inl there ↦ there | inr listed ↦ absurd (in_none xs s listed) ];
  only = λ s h. inl h;
}

module _ (old : Reached) (xs : List SymbolId) (i : ℕ) (x : SymbolId) (r : Reached) (l : i < length xs) (is : x ≡ get_or xs i x) (so_far : Added old (take i xs) r) where
  wider : (s : SymbolId) → (set.contains old.set s ≡ true) ⊎ Contains (take i xs) s → (set.contains old.set s ≡ true) ⊎ Contains (take (i + 1) xs) s
  wider s (inl h) = inl h
  wider s (inr h) = inr (in_before xs i x l s h)

  pub added_skip : set.contains r.set x ≡ true → Added old (take (i + 1) xs) r
  added_skip there = record {
    grows = so_far.grows;
    matches = so_far.matches;
    has = λ s h.
        elim h [
          | inl before ↦ so_far.has s (inl before)
          | inr listed ↦ elim (in_more xs i x l s listed) [ inl before ↦ so_far.has s (inr before) | inr now ↦ subst (λ z. set.contains r.set z ≡ true) (is ∙ now) there ]
        ];
    only = λ s h. wider s (so_far.only s h);
  }

  pub added_one : (new : Reached) → new.set ≡ set.insert r.set x → new.symbols.items ≡ r.symbols.items ++ x ∷ [] → Added old (take (i + 1) xs) new
  added_one new sets lists = record {
    grows = (so_far.grows.0 ++ x ∷ [], lists ∙ ap (λ ys. ys ++ x ∷ []) so_far.grows.1 ∙ append_assoc old.symbols.items so_far.grows.0 (x ∷ []));
    matches = λ before s. (λ h. sym_in s (subst (λ ys. Contains ys s) lists h) (so_far.matches before s), λ h. subst (λ ys. Contains ys s) (sym lists) (back s h (so_far.matches before s)));
    has = λ s h.
        elim h [
          | inl before ↦ grown s (so_far.has s (inl before))
          | inr listed ↦ elim (in_more xs i x l s listed) [ inl before ↦ grown s (so_far.has s (inr before)) | inr now ↦ subst (λ z. set.contains new.set z ≡ true) (is ∙ now) here ]
        ];
    only = λ s h. shown s h (set_cases symbol_total symbol_same r.set x s);
  }
    where
      grown : (s : SymbolId) → set.contains r.set s ≡ true → set.contains new.set s ≡ true
      grown s h =
          ap (λ z. set.contains z s) sets
          ∙ elim (set_cases symbol_total symbol_same r.set x s) [ inl c ↦ c.1 | inr c ↦ c.1 ∙ h ]

      here : set.contains new.set x ≡ true
      here =
          ap (λ z. set.contains z x) sets
          ∙ elim (set_cases symbol_total symbol_same r.set x x) [ inl c ↦ c.1 | inr c ↦ absurd (c.0 refl) ]

      sym_in : (s : SymbolId) → Contains (r.symbols.items ++ x ∷ []) s → (Contains r.symbols.items s ↔ (set.contains r.set s ≡ true)) → set.contains new.set s ≡ true
      sym_in s h both =
          elim (Contains-push_cases r.symbols.items x s h) [ inl before ↦ grown s (both.0 before) | inr now ↦ subst (λ z. set.contains new.set z ≡ true) now here ]

      back : (s : SymbolId) → set.contains new.set s ≡ true → (Contains r.symbols.items s ↔ (set.contains r.set s ≡ true)) → Contains (r.symbols.items ++ x ∷ []) s
      back s h both =
          elim (set_cases symbol_total symbol_same r.set x s) [
            | inl c ↦ subst (λ z. Contains (r.symbols.items ++ x ∷ []) z) (sym c.0) (Contains-push r.symbols.items x)
            | inr c ↦ Contains-append_left r.symbols.items (x ∷ []) s (both.1 (sym c.1 ∙ ap (λ z. set.contains z s) (sym sets) ∙ h))
          ]

      shown : (s : SymbolId) → set.contains new.set s ≡ true → ((s ≡ x) × (set.contains (set.insert r.set x) s ≡ true)) ⊎ ((s ≢ x) × (set.contains (set.insert r.set x) s ≡ set.contains r.set s))
          → (set.contains old.set s ≡ true) ⊎ Contains (take (i + 1) xs) s
      shown s h (inl c) = inr (subst (λ z. Contains (take (i + 1) xs) z) (sym (c.0 ∙ is)) (in_now xs i x l))
      shown s h (inr c) = wider s (so_far.only s (sym c.1 ∙ ap (λ z. set.contains z s) (sym sets) ∙ h))

-- ---- paths

module _ (leads : SymbolId → SymbolId → Type 0) where
  pub further : (path : List SymbolId) (s t u : SymbolId) → IsPath leads s path t → leads t u → IsPath leads s (path ++ u ∷ []) u
  further [] s t u h step = (subst (λ z. leads z u) (sym h) step, refl)
  further (x ∷ path) s t u h step = (h.0, further path x t u h.1 step)

  pub reaches_further : (s t u : SymbolId) → Reaches leads s t → leads t u → Reaches leads s u
  reaches_further s t u h step = (h.0 ++ u ∷ [], further h.0 s t u h.1 step)

  -- a set that is left over no link has what is reached from it
  pub closed : (P : SymbolId → Type 0) → ((s t : SymbolId) → P s → leads s t → P t) → (path : List SymbolId) (s t : SymbolId) → P s → IsPath leads s path t → P t
  closed P keeps [] s t p h = subst P h p
  closed P keeps (u ∷ path) s t p h = closed P keeps path u t (keeps s u p h.0) h.1

-- ---- the walk

module _ (leads : SymbolId → SymbolId → Type 0) (starts : List SymbolId) where
  pub reach_begins : (empty r : Reached) → empty.symbols.items ≡ [] → empty.set ≡ set.empty → Added empty starts r → Reaching leads starts 0 r
  reach_begins empty r lists sets added = record {
    matches = added.matches (λ s. (λ h. absurd (let l : h.0 < length empty.symbols.items = h.1 in omega (arith, ap length lists)), λ h. absurd (nothing s h)));
    only = λ t h. elim (added.only t h) [ inl there ↦ absurd (nothing t there) | inr listed ↦ (t, listed, ([], refl)) ];
    begun = λ s h. added.has s (inr h);
    done = λ s h. absurd (in_none r.symbols.items s h);
  }
    where
      nothing : (s : SymbolId) → set.contains empty.set s ≡ true → ⊥
      nothing s h = let e : false ≡ true = sym (contains-empty symbol_order s) ∙ ap (λ z. set.contains z s) (sym sets) ∙ h in cc

  pub reach_goes : (n : ℕ) (r new : Reached) (s : SymbolId) (next : List SymbolId) → n < length r.symbols.items → s ≡ get_or r.symbols.items n s → ((t : SymbolId) → Contains next t ↔ leads s t)
      → Reaching leads starts n r → Added r next new → Reaching leads starts (n + 1) new
  reach_goes n r new s next l is links so_far added = record {
    matches = added.matches so_far.matches;
    only = λ t h.
        elim (added.only t h) [
          | inl there ↦ so_far.only t there
          | inr listed ↦ let at = so_far.only s in_set in (at.0, at.1, reaches_further leads at.0 s t at.2 ((links t).0 listed))
        ];
    begun = λ t h. added.has t (inl (so_far.begun t h));
    done = λ x h t step.
        elim (in_more r.symbols.items n s l x (subst (λ ys. Contains ys x) firsts h)) [
          | inl before ↦ added.has t (inl (so_far.done x before t step))
          | inr now ↦ added.has t (inr ((links t).1 (subst (λ z. leads z t) (sym (is ∙ now)) step)))
        ];
  }
    where
      in_set : set.contains r.set s ≡ true
      in_set = (so_far.matches s).0 (n, l, sym is)

      firsts : take (n + 1) new.symbols.items ≡ take (n + 1) r.symbols.items
      firsts = ap (take (n + 1)) added.grows.1 ∙ (let e : n + 1 ≤ length r.symbols.items = omega arith in rw take-append-le)

  pub reach_ends : (n : ℕ) (r : Reached) → length r.symbols.items ≤ n → Reaching leads starts n r → IsReach leads starts r
  reach_ends n r l so_far = record {
    matches = so_far.matches;
    reached = λ t. (so_far.only t, λ h. closed leads (λ z. set.contains r.set z ≡ true) keeps h.2.0 h.0 t (so_far.begun h.0 h.1) h.2.1);
  }
    where
      keeps : (s t : SymbolId) → set.contains r.set s ≡ true → leads s t → set.contains r.set t ≡ true
      keeps s t h step = so_far.done s (in_whole r.symbols.items n l s ((so_far.matches s).1 h)) t step
