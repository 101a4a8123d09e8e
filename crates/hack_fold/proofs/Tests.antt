-- Tests by comparison.
use Rattle.std.proofs.Common.{◌≡◌, ◌==◌, ◌||◌, ℕ, Bool, true, false, cond, refl, sym, ap, ◌∙◌, arith, ne_eqb, eq-eqb, nat_cmp, is_eq, inl, inr, Less, Equal, Greater}
use Rattle.std.proofs.lemmas.Bool.{cases_lt}
use Rattle.std.proofs.lemmas.Cmp.{nat_eq_equiv}
use Rattle.std.specs.Cmp.{nat_cmp_is}

pub is_eq_nat : (x y : ℕ) → is_eq (nat_cmp x y) ≡ (x == y)
is_eq_nat x y = elim (cases_lt x y) [
  | inl below ↦ ap is_eq (sym (nat_cmp_is x y Less below)) ∙ sym (ne_eqb x y (λ e. absurd (omega (arith, below, e))))
  | inr others ↦ elim (cases_lt y x) [
    | inl above ↦ ap is_eq (sym (nat_cmp_is x y Greater above)) ∙ sym (ne_eqb x y (λ e. absurd (omega (arith, above, e))))
    | inr equal ↦
        let same : x ≡ y = omega (arith, others, equal) in
        ap is_eq (sym (nat_cmp_is x y Equal same)) ∙ sym (eq-eqb x y same)
  ]
]

pub is_eq_back : (x y : ℕ) → is_eq (nat_cmp x y) ≡ (y == x)
is_eq_back x y = is_eq_nat x y ∙ nat_eq_equiv.symm x y

pub cond_or : (b old : Bool) → cond b true old ≡ (old || (b || false))
cond_or true true = refl
cond_or true false = refl
cond_or false true = refl
cond_or false false = refl

pub or_true : (b : Bool) → (b || true) ≡ true
or_true true = refl
or_true false = refl
