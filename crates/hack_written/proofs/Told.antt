-- Checks with an answer behind them.
use Rattle.std.proofs.Common.{◌≡◌, ◌∙◌, sym, ap}
use Rattle.hack_decls.specs.DeclState.{Map}
use Rattle.hack_rules.specs.Walks.{Setting, State, Walk, ◌>>=◌, pure}
use Rattle.hack_written.specs.inside.Rows.{told}

module _ {A B : Type 0} (checks : Walk (Unit {0})) (T a : A) (setting : Setting) (m : Map) (before behind : State) where
  -- what goes on from the answer
  pub from_told : (next : A → Walk B) → told checks T setting m before ≡ (a, behind) → next T setting m (checks setting m before).1 ≡ next a setting m behind
  unfolding ◌>>=◌ pure
  from_told next is = ap (λ (r : A × State). next r.0 setting m r.1) is

  -- another answer is made of it
  pub told_made : (f : A → B) (b : B) → told checks T setting m before ≡ (a, behind) → b ≡ f a → told checks (f T) setting m before ≡ (b, behind)
  unfolding ◌>>=◌ pure
  told_made f b is made = ap (λ (r : A × State). (f r.0, r.1)) is ∙ ap (λ (x : B). (x, behind)) (sym made)

module _ {A : Type 0} (checks : Walk (Unit {0})) (T : A) (setting : Setting) (m : Map) (before behind : State) where
  -- checks alone
  pub told_done : checks setting m before ≡ (tt, behind) → (a : A) → a ≡ T → told checks T setting m before ≡ (a, behind)
  unfolding ◌>>=◌ pure
  told_done is a same = ap (λ (r : Unit {0} × State). (T, r.1)) is ∙ ap (λ (x : A). (x, behind)) (sym same)

  pub done_told : {a : A} → told checks T setting m before ≡ (a, behind) → checks setting m before ≡ (tt, behind)
  unfolding ◌>>=◌ pure
  done_told is = ap (λ (r : A × State). (tt, r.1)) is

  pub told_is : {a : A} → told checks T setting m before ≡ (a, behind) → a ≡ T
  unfolding ◌>>=◌ pure
  told_is is = sym (ap (λ (r : A × State). r.0) is)
