-- Answers of yes and no, and what they decide.
use Rattle.std.proofs.Common.{◌≡◌, ◌⊎◌, ◌↔◌, inl, inr, Bool, true, false, Result}
use Rattle.std.specs.Prelude.{IsTrue, IfOk}
use Rattle.std.proofs.lemmas.Result.{IfOk-weaker}

-- ---- three parts

module _ {E : Type 0} (r : Result Bool E) where
  -- where the first two aren't so
  pub last_of_three : {A B : Type 0} (C : Type 0) → ¬ A → ¬ B → IfOk r (λ answer. IsTrue answer ↔ C) → IfOk r (λ answer. IsTrue answer ↔ (A ⊎ (B ⊎ C)))
  last_of_three C first second h =
      IfOk-weaker r _ _ (λ answer both.
      (λ k. inr (inr (both.0 k)), λ m. elim m [ inl a ↦ absurd (first a) | inr rest ↦ elim rest [ inl b ↦ absurd (second b) | inr third ↦ both.1 third ] ])) h

  -- where the first three are so
  pub after_three : {A B C : Type 0} (D : Type 0) → A → B → C → IfOk r (λ answer. IsTrue answer ↔ D) → IfOk r (λ answer. IsTrue answer ↔ (A × B × C × D))
  after_three D a b c h = IfOk-weaker r _ _ (λ answer both. (λ k. (a, b, c, both.0 k), λ m. both.1 m.3)) h

-- ---- two parts

-- where the first is so, the second decides
pub behind_one : {E P : Type 0} (r : Result Bool E) (Q : Type 0) → P → IfOk r (λ answer. IsTrue answer ↔ Q) → IfOk r (λ answer. IsTrue answer ↔ (P × Q))
behind_one r Q p h = IfOk-weaker r _ _ (λ answer both. (λ k. (p, both.0 k), λ m. both.1 m.1)) h

-- where the first isn't so
pub not_first : {P : Type 0} (Q : Type 0) → ¬ P → (false ≡ true) ↔ (P × Q)
not_first Q denies = (λ h. absurd (let e : false ≡ true = h in cc), λ m. absurd (denies m.0))
