-- A loop that puts items into a set.
use Rattle.std.proofs.Common.{◌≡◌, ◌↔◌, ◌<◌, ◌≤◌, inl, inr, refl, sym, ap, ◌∙◌, subst, ℕ, ◌+◌, Bool, true, false, List, length, get_or}
use Rattle.std.specs.Prelude.{Contains}
use Rattle.std.specs.Cmp.{IsTotalOrder}
use Rattle.std.specs.FinMap.{IsAntisymmetric}
use Rattle.std.specs.FinSet as set
use Rattle.std.specs.FinSet.{contains-empty, same_set}
use Rattle.std.specs.declared.cmp.Ordering.{Ordering}
use Rattle.phase_core.specs.Picked.{Picked}
use Rattle.phase_core.proofs.Maps.{set_cases}
use Rattle.phase_core.proofs.Lists.{in_none, in_more, in_whole}

module _ {X K : Type 0} {R : K → K → Ordering} (total : IsTotalOrder R) (same : IsAntisymmetric R) (f : X → K) (P : X → Type 0) (xs : List X) where
  pub picked_none : (s : set.FinSet R) → s ≡ set.empty → Picked f P xs 0 s
  picked_none s is = record {
    only = λ k h. absurd (let e : false ≡ true = sym (contains-empty R k) ∙ ap (λ z. set.contains z k) (sym is) ∙ h in cc);
    all = λ x h p. absurd (in_none xs x h);
  }

  module _ (i : ℕ) (x : X) (s new : set.FinSet R) (l : i < length xs) (is : x ≡ get_or xs i x) (so_far : Picked f P xs i s) where
    pub picked_skip : new ≡ s → ¬ P x → Picked f P xs (i + 1) new
    picked_skip stays not =
        subst (Picked f P xs (i + 1)) (sym stays)
        (record {
          only = so_far.only;
          all = λ y h p. elim (in_more xs i x l y h) [ inl before ↦ so_far.all y before p | inr now ↦ absurd (not (subst P (sym (is ∙ now)) p)) ];
        })

    pub picked_one : new ≡ set.insert s (f x) → P x → Picked f P xs (i + 1) new
    picked_one put p =
        subst (Picked f P xs (i + 1)) (sym put)
        (record {
          only = λ k h.
              elim (set_cases total same s (f x) k) [
                | inl c ↦ (x, (i, l, sym is), p, sym c.0)
                | inr c ↦ so_far.only k (sym c.1 ∙ h)
              ];
          all = λ y h q.
              elim (set_cases total same s (f x) (f y)) [
                | inl c ↦ c.1
                | inr c ↦ elim (in_more xs i x l y h) [ inl before ↦ c.1 ∙ so_far.all y before q | inr now ↦ absurd (c.0 (sym (ap f (is ∙ now)))) ]
              ];
        })

  pub picked_whole : (i : ℕ) (s : set.FinSet R) → length xs ≤ i → Picked f P xs i s → (k : K) → (set.contains s k ≡ true) ↔ ((x : X) × Contains xs x × P x × (f x ≡ k))
  picked_whole i s l so_far k = (so_far.only k, λ h. subst (λ z. set.contains s z ≡ true) h.3 (so_far.all h.0 (in_whole xs i l h.0 h.1) h.2))

-- where all that has P is among the items
pub picked_exactly : {K : Type 0} {R : K → K → Ordering} (total : IsTotalOrder R) (same : IsAntisymmetric R) (P : K → Type 0) (xs : List K) (i : ℕ) (s : set.FinSet R) → ((k : K) → P k → Contains xs k) → length xs ≤ i
    → Picked (λ k. k) P xs i s → (k : K) → (set.contains s k ≡ true) ↔ P k
picked_exactly total same P xs i s listed l so_far k =
    let whole = picked_whole total same (λ z. z) P xs i s l so_far k in
    (λ h. let r = whole.0 h in subst P r.3 r.2, λ p. whole.1 (k, listed k p, p, refl))

-- where the items are exactly what has Q
pub picked_among : {K : Type 0} {R : K → K → Ordering} (total : IsTotalOrder R) (same : IsAntisymmetric R) (P Q : K → Type 0) (xs : List K) (i : ℕ) (s : set.FinSet R) → ((k : K) → Contains xs k ↔ Q k) → length xs ≤ i
    → Picked (λ k. k) P xs i s → (k : K) → (set.contains s k ≡ true) ↔ (Q k × P k)
picked_among total same P Q xs i s are l so_far k =
    let whole = picked_whole total same (λ z. z) P xs i s l so_far k in
    (λ h. let r = whole.0 h in ((are k).0 (subst (Contains xs) r.3 r.1), subst P r.3 r.2), λ p. whole.1 (k, (are k).1 p.0, p.1, refl))

-- two sets with the same members
pub same_members : {K : Type 0} {R : K → K → Ordering} → IsTotalOrder R → IsAntisymmetric R → (s t : set.FinSet R) → ((k : K) → (set.contains s k ≡ true) ↔ (set.contains t k ≡ true)) → s ≡ t
same_members {R = R} total same s t are = same_set total same s t (λ k. by (set.contains s k) (set.contains t k) (are k))
  where
    by : (a b : Bool) → ((a ≡ true) ↔ (b ≡ true)) → a ≡ b
    by true b h = sym (h.0 refl)
    by false true h = h.1 refl
    by false false h = refl
