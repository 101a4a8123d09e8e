-- What a walk over links has met. No public clause names these.
use Rattle.std.specs.Prelude.{◌≡◌, ◌↔◌, ◌⊎◌, ℕ, List, ◌++◌, Contains, take, true}
use Rattle.std.specs.FinSet as set
use Rattle.hack_types.specs.declared.ids.SymbolId.{SymbolId}
use Rattle.phase_core.specs.declared.closure.Reached.{Reached}
use Rattle.phase_core.specs.Closures.{ReachedFrom}

-- the list has what the set has
abbrev pub Matches : Reached → Type 0
Matches r = (s : SymbolId) → Contains r.symbols.items s ↔ (set.contains r.set s ≡ true)

-- these were added
pub record Added (old : Reached) (more : List SymbolId) (new : Reached) : Type 0 where
  -- behind those that were there
  pub grows : (rest : List SymbolId) × (new.symbols.items ≡ old.symbols.items ++ rest)
  pub matches : Matches old → Matches new
  pub has : (s : SymbolId) → (set.contains old.set s ≡ true) ⊎ Contains more s → set.contains new.set s ≡ true
  pub only : (s : SymbolId) → set.contains new.set s ≡ true → (set.contains old.set s ≡ true) ⊎ Contains more s

-- this is what is reached from these
pub record IsReach (leads : SymbolId → SymbolId → Type 0) (starts : List SymbolId) (r : Reached) : Type 0 where
  pub matches : Matches r
  pub reached : (t : SymbolId) → (set.contains r.set t ≡ true) ↔ ReachedFrom leads starts t

-- a walk that has looked at the first so many
pub record Reaching (leads : SymbolId → SymbolId → Type 0) (starts : List SymbolId) (n : ℕ) (r : Reached) : Type 0 where
  pub matches : Matches r
  pub only : (t : SymbolId) → set.contains r.set t ≡ true → ReachedFrom leads starts t
  pub begun : (s : SymbolId) → Contains starts s → set.contains r.set s ≡ true
  pub done : (s : SymbolId) → Contains (take n r.symbols.items) s → (t : SymbolId) → leads s t → set.contains r.set t ≡ true
