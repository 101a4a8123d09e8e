-- The orders are total, and tell all apart.
use Rattle.std.proofs.Common.{◌≡◌, refl, subst, ℕ}
use Rattle.std.specs.Cmp.{IsTotalOrder}
use Rattle.std.specs.Cmp.Lexicographic.{on_texts}
use Rattle.std.specs.FinMap.{IsAntisymmetric, nat_cmp-IsAntisymmetric, slice_cmp-IsAntisymmetric}
use Rattle.std.specs.Ordering.{ordering_then, on, nat_cmp}
use Rattle.std.specs.declared.cmp.Ordering.{Ordering}
use Rattle.std.specs.declared.cmp.Ordering.TheVariants.{Less, Equal, Greater}
use Rattle.std.proofs.lemmas.Cmp.{nat_cmp_total, then_total, on_total}
use Rattle.hack_types.specs.declared.ids.Kind.{Kind}
use Rattle.hack_types.specs.declared.ids.Kind.TheVariants.{Class, Func, Const}
use Rattle.hack_types.specs.Report.{place_order}
use Rattle.hack_names.specs.Inside.{kind_order, symbol_order, spot_order, declared_order}

-- ---- total

rank : Kind → ℕ
rank Class = 0
rank Func = 1
rank Const = 2

ranks : (x y : Kind) → on rank nat_cmp x y ≡ kind_order x y
unfolding rank
ranks Class Class = refl
ranks Class Func = refl
ranks Class Const = refl
ranks Func Class = refl
ranks Func Func = refl
ranks Func Const = refl
ranks Const Class = refl
ranks Const Func = refl
ranks Const Const = refl

pub kind_total : IsTotalOrder kind_order
kind_total =
    let same : on rank nat_cmp ≡ kind_order = λ i x y. ranks x y i in
    subst IsTotalOrder same (on_total rank nat_cmp_total)

pub place_total : IsTotalOrder place_order
place_total = then_total (on_total (λ p. p.line) nat_cmp_total) (on_total (λ p. p.column) nat_cmp_total)

pub symbol_total : IsTotalOrder symbol_order
symbol_total = then_total (on_total (λ s. s.kind) kind_total) (on_total (λ s. s.name) nat_cmp_total)

pub spot_total : IsTotalOrder spot_order
spot_total = then_total (on_texts (λ s. s.file)) (then_total (on_total (λ s. s.at) place_total) (on_total (λ s. s.position) nat_cmp_total))

pub declared_total : IsTotalOrder declared_order
declared_total = then_total (on_total (λ d. d.symbol) symbol_total) (on_total (λ d. d.spot) spot_total)

-- ---- only what is equal ties

both_tie : (p q : Ordering) → ordering_then p q ≡ Equal → (p ≡ Equal) × (q ≡ Equal)
both_tie Less q e = absurd cc
both_tie Equal q e = (refl, e)
both_tie Greater q e = absurd cc

pub kind_same : IsAntisymmetric kind_order
kind_same Class Class e = refl
kind_same Func Func e = refl
kind_same Const Const e = refl
kind_same Class Func e = absurd cc
kind_same Class Const e = absurd cc
kind_same Func Class e = absurd cc
kind_same Func Const e = absurd cc
kind_same Const Class e = absurd cc
kind_same Const Func e = absurd cc

pub place_same : IsAntisymmetric place_order
place_same x y e =
    let parts = both_tie _ _ e in
    let line = nat_cmp-IsAntisymmetric x.line y.line parts.0 in
    let column = nat_cmp-IsAntisymmetric x.column y.column parts.1 in
    λ i. record { line = line i; column = column i }

pub symbol_same : IsAntisymmetric symbol_order
symbol_same x y e =
    let parts = both_tie _ _ e in
    let kind = kind_same x.kind y.kind parts.0 in
    let name = nat_cmp-IsAntisymmetric x.name y.name parts.1 in
    λ i. record { kind = kind i; name = name i }

pub spot_same : IsAntisymmetric spot_order
spot_same x y e =
    let parts = both_tie _ _ e in
    let rest = both_tie _ _ parts.1 in
    let file = slice_cmp-IsAntisymmetric nat_cmp-IsAntisymmetric x.file y.file parts.0 in
    let at = place_same x.at y.at rest.0 in
    let position = nat_cmp-IsAntisymmetric x.position y.position rest.1 in
    λ i. record { file = file i; at = at i; position = position i }

pub declared_same : IsAntisymmetric declared_order
declared_same x y e =
    let parts = both_tie _ _ e in
    let symbol = symbol_same x.symbol y.symbol parts.0 in
    let spot = spot_same x.spot y.spot parts.1 in
    λ i. record { symbol = symbol i; spot = spot i }
