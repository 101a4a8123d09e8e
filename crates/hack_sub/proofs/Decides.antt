-- Tests that are true exactly where something holds.
use Rattle.std.proofs.Common.{◌≡◌, ◌&&◌, ◌||◌, ◌⊎◌, Bool, true, false, not, Decides, Option, Some, None, List, All, Any, IsTrue, IsFalse, refl, sym, inl, inr}
use Rattle.std.proofs.lemmas.Bool.{false≢true}
use Rattle.std.proofs.lemmas.Bool.Decides.{Decides-by_and}
use Rattle.std.proofs.lemmas.List.Folds.{Any-from_list_any, list_any-from_Any}
use Rattle.std.specs.List.{list_all, list_any}
use Rattle.std.specs.Option.{IsSomeAnd}
use Rattle.hack_sub.specs.IsBelow.{some_and}

pub tested : (b : Bool) → Decides b (IsTrue b)
tested b = (λ e. e, λ e. e)

pub denied : (b : Bool) → Decides (not b) (IsFalse b)
denied true = (λ e. absurd (false≢true e), λ e. absurd (false≢true (sym e)))
denied false = (λ e. refl, λ e. refl)

pub never : (P : Type 0) → (P → ⊥) → Decides false P
never P none = (λ e. absurd (false≢true e), λ p. absurd (none p))

pub both : (a b : Bool) (P Q : Type 0) → Decides a P → Decides b Q → Decides (a && b) (P × Q)
both true true P Q p q = (λ e. (p.0 refl, q.0 refl), λ w. refl)
both true false P Q p q = (λ e. absurd (false≢true e), λ w. q.1 w.1)
both false b P Q p q = (λ e. absurd (false≢true e), λ w. p.1 w.0)

other : (b : Bool) (P Q : Type 0) → Decides false P → Decides b Q → P ⊎ Q → b ≡ true
other b P Q p q (inl x) = absurd (false≢true (p.1 x))
other b P Q p q (inr y) = q.1 y

pub either : (a b : Bool) (P Q : Type 0) → Decides a P → Decides b Q → Decides (a || b) (P ⊎ Q)
either true b P Q p q = (λ e. inl (p.0 refl), λ w. refl)
either false b P Q p q = (λ e. inr (q.0 e), other b P Q p q)

-- the second needs to hold only where the first does
pub implied : (a b : Bool) (Q : Type 0) → Decides b Q → Decides (not a || b) (IsTrue a → Q)
implied true b Q q = (λ e. λ t. q.0 e, λ w. q.1 (w refl))
implied false b Q q = (λ e. λ t. absurd (false≢true t), λ w. refl)

-- the second needs to hold only where the first doesn't
pub else_implied : (a b : Bool) (Q : Type 0) → Decides b Q → Decides (a || b) (IsFalse a → Q)
else_implied true b Q q = (λ e. λ t. absurd (false≢true (sym t)), λ w. refl)
else_implied false b Q q = (λ e. λ t. q.0 e, λ w. q.1 (w refl))

-- a test before, which is true wherever the fact holds
pub gated : (a b : Bool) (Q : Type 0) → (Q → a ≡ true) → Decides b Q → Decides (a && b) Q
gated true b Q need q = q
gated false b Q need q = (λ e. absurd (false≢true e), λ w. need w)

module _ {A : Type 0} (test : A → Bool) (P : A → Type 0) (each : (a : A) → Decides (test a) (P a)) where
  pub some : (o : Option A) → Decides (some_and o test) (IsSomeAnd o P)
  some None = never ⊥ (λ w. w)
  some (Some a) = each a

  pub all : (xs : List A) → Decides (list_all test xs) (All P xs)
  all xs = Decides-by_and test P (list_all test) each refl (λ _ _. refl) xs

  found : (xs : List A) → Any (λ x. test x ≡ true) xs → Any P xs
  found xs w = (w.0, w.1, w.2, w.3, (each w.1).0 w.4)

  passed : (xs : List A) → Any P xs → Any (λ x. test x ≡ true) xs
  passed xs w = (w.0, w.1, w.2, w.3, (each w.1).1 w.4)

  pub any : (xs : List A) → Decides (list_any test xs) (Any P xs)
  any xs = (λ e. found xs (Any-from_list_any test xs e), λ w. list_any-from_Any test xs (passed xs w))

pub or_left : (a b : Bool) → a ≡ true → (a || b) ≡ true
or_left true b e = refl
or_left false b e = absurd (false≢true e)

pub or_right : (a b : Bool) → b ≡ true → (a || b) ≡ true
or_right true b e = refl
or_right false b e = e

pub or_cases : (a b : Bool) → (a || b) ≡ true → (a ≡ true) ⊎ (b ≡ true)
or_cases true b e = inl refl
or_cases false b e = inr e

pub and_parts : (a b : Bool) → (a && b) ≡ true → (a ≡ true) × (b ≡ true)
and_parts a b = (both a b (IsTrue a) (IsTrue b) (tested a) (tested b)).0

pub and_true : (a b : Bool) → a ≡ true → b ≡ true → (a && b) ≡ true
and_true a b p q = (both a b (IsTrue a) (IsTrue b) (tested a) (tested b)).1 (p, q)

pub or_elim : (a b : Bool) (Q : Type 0) → (a ≡ true → Q) → (b ≡ true → Q) → (a || b) ≡ true → Q
or_elim true b Q f g e = f refl
or_elim false b Q f g e = g e
