-- The orders are total, and only what is equal ties.
use Rattle.std.proofs.Common.{◌≡◌, ◌≢◌, ◌⊎◌, inl, inr, refl, sym, ap, ◌∙◌, subst, ℕ, true, false}
use Rattle.std.specs.Cmp.{IsTotalOrder}
use Rattle.std.specs.FinMap.{IsAntisymmetric, nat_cmp-IsAntisymmetric}
use Rattle.std.specs.Ordering.{ordering_then, on, nat_cmp, bool_cmp, eq_by_cmp, is_eq}
use Rattle.std.specs.declared.cmp.Ordering.{Ordering}
use Rattle.std.specs.declared.cmp.Ordering.TheVariants.{Less, Equal, Greater}
use Rattle.std.proofs.lemmas.Cmp.{nat_cmp_total, then_total, on_total, tied_itself}
use Rattle.std.specs.Cmp.{bool_cmp_total}
use Rattle.hack_types.specs.declared.ids.Kind.{Kind}
use Rattle.hack_types.specs.declared.ids.Kind.TheVariants.{Class, Func, Const}
use Rattle.phase_core.specs.Orders.{kind_order, symbol_order}
use Rattle.phase_core.specs.EdgeOrder.{edge_order}

-- ---- total

rank : Kind → ℕ
rank Class = 0
rank Func = 1
rank Const = 2

ranks : (x y : Kind) → on rank nat_cmp x y ≡ kind_order x y
unfolding rank
ranks Class Class = refl
ranks Class Func = refl
ranks Class Const = refl
ranks Func Class = refl
ranks Func Func = refl
ranks Func Const = refl
ranks Const Class = refl
ranks Const Func = refl
ranks Const Const = refl

kind_total : IsTotalOrder kind_order
kind_total =
    let same : on rank nat_cmp ≡ kind_order = λ i x y. ranks x y i in
    subst IsTotalOrder same (on_total rank nat_cmp_total)

pub symbol_total : IsTotalOrder symbol_order
symbol_total = then_total (on_total (λ s. s.kind) kind_total) (on_total (λ s. s.name) nat_cmp_total)

pub edge_total : IsTotalOrder edge_order
edge_total = then_total (on_total (λ e. e.fold) bool_cmp_total) (then_total (on_total (λ e. e.from) symbol_total) (on_total (λ e. e.to) symbol_total))

-- ---- only what is equal ties

both_tie : (p q : Ordering) → ordering_then p q ≡ Equal → (p ≡ Equal) × (q ≡ Equal)
both_tie Less q e = absurd cc
both_tie Equal q e = (refl, e)
both_tie Greater q e = absurd cc

kind_same : IsAntisymmetric kind_order
kind_same Class Class e = refl
kind_same Func Func e = refl
kind_same Const Const e = refl
kind_same Class Func e = absurd cc
kind_same Class Const e = absurd cc
kind_same Func Class e = absurd cc
kind_same Func Const e = absurd cc
kind_same Const Class e = absurd cc
kind_same Const Func e = absurd cc

bool_same : IsAntisymmetric bool_cmp
bool_same true true e = refl
bool_same false false e = refl
bool_same true false e = absurd cc
bool_same false true e = absurd cc

pub symbol_same : IsAntisymmetric symbol_order
symbol_same x y e =
    let parts = both_tie _ _ e in
    let kind = kind_same x.kind y.kind parts.0 in
    let name = nat_cmp-IsAntisymmetric x.name y.name parts.1 in
    λ i. record { kind = kind i; name = name i }

pub edge_same : IsAntisymmetric edge_order
edge_same x y e =
    let parts = both_tie _ _ e in
    let rest = both_tie _ _ parts.1 in
    let fold = bool_same x.fold y.fold parts.0 in
    let from = symbol_same x.from y.from rest.0 in
    let to = symbol_same x.to y.to rest.1 in
    λ i. record { fold = fold i; from = from i; to = to i }

-- ---- equal or not

pub decided : {K : Type 0} {R : K → K → Ordering} → IsTotalOrder R → IsAntisymmetric R → (x y : K) → ((x ≡ y) × (eq_by_cmp R x y ≡ true)) ⊎ ((x ≢ y) × (eq_by_cmp R x y ≡ false))
decided {R = R} total same x y = by (R x y) refl
  where
    apart : (r : Ordering) → R x y ≡ r → is_eq r ≡ false → x ≢ y
    apart r e not is =
        let tie : R x y ≡ Equal = subst (λ z. R x z ≡ Equal) is (tied_itself total x) in
        let clash : true ≡ false = ap is_eq (sym tie ∙ e) ∙ not in
        absurd cc

    by : (r : Ordering) → R x y ≡ r → ((x ≡ y) × (is_eq (R x y) ≡ true)) ⊎ ((x ≢ y) × (is_eq (R x y) ≡ false))
    by Less e = inr (apart Less e refl, ap is_eq e)
    by Equal e = inl (same x y e, ap is_eq e)
    by Greater e = inr (apart Greater e refl, ap is_eq e)
