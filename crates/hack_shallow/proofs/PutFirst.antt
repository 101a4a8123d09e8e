-- A position that is put where the name has none.
use Rattle.std.proofs.Common.{◌≡◌, ◌≢◌, ◌==◌, ℕ, true, false, cond, Option, Some, None, sym, ap, ◌∙◌, refl, inl, inr, arith}
use Rattle.std.specs.declared.cmp.Ordering.TheVariants.{Less, Equal, Greater}
use Rattle.std.specs.Ordering.{nat_cmp, is_eq}
use Rattle.std.specs.Cmp.{nat_cmp_is}
use Rattle.std.proofs.lemmas.Bool.{cases_lt}
use Rattle.std.proofs.lemmas.Bool.Decides.{eqb_tells}
use Rattle.hack_shallow.specs.Positions.{first_by}

apart : (name query : ℕ) → name ≢ query → is_eq (nat_cmp name query) ≡ false
apart name query ne =
    elim (cases_lt name query) [
      | inl below ↦ ap is_eq (sym (nat_cmp_is name query Less below))
      | inr others ↦ elim (cases_lt query name) [
        | inl above ↦ ap is_eq (sym (nat_cmp_is name query Greater above))
        | inr equal ↦ absurd (ne (omega (arith, others, equal)))
      ]
    ]

other : (name index query : ℕ) (before : Option ℕ) → (name == query) ≡ false → before ≡ first_by name index query before
other name index query (Some position) differ = refl
other name index query None differ = rw differ refl

here : (name index query : ℕ) (before : Option ℕ) → (name == query) ≡ true → before ≡ None → Some index ≡ first_by name index query before
here name index query before equal none = rw none (rw equal refl)

pub put_first : (name index query : ℕ) (before after : Option ℕ) → after ≡ cond (is_eq (nat_cmp name query)) (Some index) before → (name ≡ query → before ≡ None) → after ≡ first_by name index query before
put_first name index query before after e none =
    elim (eqb_tells name query) [
      | inl same ↦ e ∙ rw (ap is_eq (sym (nat_cmp_is name query Equal same.1))) (here name index query before same.0 (none same.1))
      | inr differ ↦ e ∙ rw (apart name query differ.1) (other name index query before differ.0)
    ]
