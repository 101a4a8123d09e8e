-- What a loop has put into a set. No public clause names these.
use Rattle.std.specs.Prelude.{◌≡◌, ℕ, List, Contains, take, true}
use Rattle.std.specs.FinSet as set
use Rattle.std.specs.declared.cmp.Ordering.{Ordering}

-- of the first so many items, those with P are in the set, each as f makes it
pub record Picked {X K : Type 0} {R : K → K → Ordering} (f : X → K) (P : X → Type 0) (xs : List X) (n : ℕ) (picked : set.FinSet R) : Type 0 where
  pub only : (k : K) → set.contains picked k ≡ true → (x : X) × Contains xs x × P x × (f x ≡ k)
  pub all : (x : X) → Contains (take n xs) x → P x → set.contains picked (f x) ≡ true
