-- The copy of a map, symbol by symbol.
use Rattle.std.proofs.Common.{◌≡◌, ◌<◌, ◌≤◌, inl, inr, refl, sym, ap, ◌∙◌, subst, ℕ, ◌+◌, Bool, true, false, cond, List, length, get_or, Option, Some, None}
use Rattle.std.specs.Prelude.{IsSome, Contains, ◌↔◌}
use Rattle.std.specs.FinMap as finite
use Rattle.std.specs.FinMap.{get-empty}
use Rattle.std.specs.FinSet as set
use Rattle.hack_types.specs.declared.ids.SymbolId.{SymbolId}
use Rattle.phase_core.specs.Orders.{symbol_order}
use Rattle.phase_core.specs.Inside.{CopiedSoFar, put_at, put_from}
use Rattle.phase_core.proofs.Orders.{symbol_total, symbol_same}
use Rattle.phase_core.proofs.Maps.{insert_cases}
use Rattle.phase_core.proofs.Lists.{in_none, in_more, in_whole}

pub some_same : {X : Type 0} (x y : X) → Some x ≡ Some y → x ≡ y
some_same x y e = cc

pub not_some : {X : Type 0} {o : Option X} (x : X) → o ≡ None → o ≡ Some x → ⊥
not_some x e f = let h = sym e ∙ f in cc

module _ {V : Type 0} (from : finite.FinMap symbol_order V) (gone : set.FinSet symbol_order) (symbols : List SymbolId) where
  pub copied_init : CopiedSoFar from gone symbols 0 finite.empty
  copied_init = record {
    only = λ s v h. absurd (not_some v (get-empty symbol_order s) h);
    all = λ s h not. absurd (in_none symbols s h);
  }

  module _ (i : ℕ) (s : SymbolId) (rest : finite.FinMap symbol_order V) (l : i < length symbols) (is : s ≡ get_or symbols i s) (so_far : CopiedSoFar from gone symbols i rest) where
    pub copied_skip : set.contains gone s ≡ true → CopiedSoFar from gone symbols (i + 1) rest
    copied_skip there = record {
      only = so_far.only;
      all = λ x h not.
          elim (in_more symbols i s l x h) [
            | inl before ↦ so_far.all x before not
            | inr now ↦ absurd (let e : true ≡ false = sym there ∙ ap (set.contains gone) (is ∙ now) ∙ not in cc)
          ];
    }

    put_none : set.contains gone s ≡ false → finite.get from s ≡ None → CopiedSoFar from gone symbols (i + 1) rest
    put_none kept none = record {
      only = so_far.only;
      all = λ x h not.
          elim (in_more symbols i s l x h) [
            | inl before ↦ so_far.all x before not
            | inr now ↦ subst (λ z. finite.get rest z ≡ finite.get from z) (is ∙ now) (empty_here (finite.get rest s) refl ∙ sym none)
          ];
    }
      where
        empty_here : (o : Option V) → finite.get rest s ≡ o → finite.get rest s ≡ None
        empty_here None e = e
        empty_here (Some v) e = absurd (not_some v none (so_far.only s v e).1)

    put_some : (w : V) → set.contains gone s ≡ false → finite.get from s ≡ Some w → CopiedSoFar from gone symbols (i + 1) (finite.insert rest s w)
    put_some w kept has = record {
      only = λ x v h.
          elim (insert_cases symbol_total symbol_same rest s w x) [
            | inl c ↦ (ap (set.contains gone) c.0 ∙ kept, ap (finite.get from) c.0 ∙ has ∙ sym c.1 ∙ h)
            | inr c ↦ so_far.only x v (sym c.1 ∙ h)
          ];
      all = λ x h not.
          elim (insert_cases symbol_total symbol_same rest s w x) [
            | inl c ↦ c.1 ∙ sym has ∙ ap (finite.get from) (sym c.0)
            | inr c ↦
                elim (in_more symbols i s l x h) [
                  | inl before ↦ c.1 ∙ so_far.all x before not
                  | inr now ↦ absurd (c.0 (sym (is ∙ now)))
                ]
          ];
    }

    pub copied_put : set.contains gone s ≡ false → CopiedSoFar from gone symbols (i + 1) (put_from from s rest)
    copied_put kept = by (finite.get from s) refl
      where
        by : (o : Option V) → finite.get from s ≡ o → CopiedSoFar from gone symbols (i + 1) (put_at rest s (finite.get from s))
        by None e = subst (λ o. CopiedSoFar from gone symbols (i + 1) (put_at rest s o)) (sym e) (put_none kept e)
        by (Some w) e = subst (λ o. CopiedSoFar from gone symbols (i + 1) (put_at rest s o)) (sym e) (put_some w kept e)

  pub copied_whole : (i : ℕ) (rest : finite.FinMap symbol_order V) → length symbols ≤ i → ((s : SymbolId) → Contains symbols s ↔ IsSome (finite.get from s)) → CopiedSoFar from gone symbols i rest
      → (s : SymbolId) → finite.get rest s ≡ cond (set.contains gone s) None (finite.get from s)
  copied_whole i rest l are so_far s = by (set.contains gone s) refl (finite.get from s) refl (finite.get rest s) refl
    where
      by : (g : Bool) → set.contains gone s ≡ g → (f : Option V) → finite.get from s ≡ f → (r : Option V) → finite.get rest s ≡ r → finite.get rest s ≡ cond (set.contains gone s) None (finite.get from s)
      by true eg f ef None er = er ∙ sym (ap (λ b. cond b None (finite.get from s)) eg)
      by true eg f ef (Some v) er = absurd (let e : true ≡ false = sym eg ∙ (so_far.only s v er).0 in cc)
      by false eg None ef None er = er ∙ sym (ap (λ b. cond b None (finite.get from s)) eg ∙ ef)
      by false eg None ef (Some v) er = absurd (not_some v ef (so_far.only s v er).1)
      by false eg (Some w) ef r er =
          so_far.all s (in_whole symbols i l s ((are s).1 (subst IsSome (sym ef) refl))) eg ∙ sym (ap (λ b. cond b None (finite.get from s)) eg)
