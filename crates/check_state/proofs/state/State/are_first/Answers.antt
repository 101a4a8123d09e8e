use Rattle.std.proofs.Common.{◌≡◌, ℕ, Bool, true, false, nat_eq, refl, sym, ◌∙◌}
use Rattle.std.specs.Bool.{MatchBool}
use Rattle.std.proofs.lemmas.Bool.{eqb-true, eq-eqb}
use Rattle.check_state.proofs.Firsts.{are_first_from, none_other}
use Rattle.check_state.proofs.state.State.are_first.Goals as goal

answered : (n : ℕ) (P : Type 0) → (n ≡ 0 → P) → (P → n ≡ 0) → MatchBool (nat_eq n 0) P (P → ⊥)
answered n P to from = by (nat_eq n 0) refl
  where
    by : (b : Bool) → nat_eq n 0 ≡ b → MatchBool b P (P → ⊥)
    by true e = to (eqb-true n 0 e)
    by false e = λ p. let clash : true ≡ false = sym (eq-eqb n 0 (from p)) ∙ e in absurd cc

pub returns : goal.returns
returns c = λ files stands. answered c.args.self.now.others _ (are_first_from c.args.self.now files stands) (none_other c.args.self.now files stands)
