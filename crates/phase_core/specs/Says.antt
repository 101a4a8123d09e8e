-- What answers, lists and sets say.
use Rattle.std.specs.Prelude.{◌≡◌, ◌↔◌, IsTrue, Bool, List, Contains, true}
use Rattle.std.specs.FinSet.{FinSet, contains}
use Rattle.std.specs.declared.cmp.Ordering.{Ordering}

-- the answer is yes exactly where P is so
abbrev pub Tells : Type 0 → Bool → Type 0
Tells P answer = IsTrue answer ↔ P

-- the list has exactly what has P
abbrev pub ListsAll : {X : Type 0} → (X → Type 0) → List X → Type 0
ListsAll {X = X} P xs = (x : X) → Contains xs x ↔ P x

-- the set has exactly what has P
abbrev pub HasAll : {K : Type 0} {R : K → K → Ordering} → (K → Type 0) → FinSet R → Type 0
HasAll {K = K} P set = (k : K) → (contains set k ≡ true) ↔ P k
