-- What one lookup does: it answers from what is declared under its symbol, and notes the symbol alone.
use Rattle.std.specs.Prelude.{◌≡◌, ◌<◌, ◌≤◌, ◌-◌, ◌^◌, ◌⊎◌, ℕ, Bool, Option, Result, Ok, Err, IsTrue, IfOk, IfErr, Contains}
use Rattle.hack_types.specs.declared.ids.SymbolId.{SymbolId}
use Rattle.hack_decls.specs.declared.folded.Folded.{Folded}
use Rattle.hack_decls.specs.declared.stop.DeclStop.{DeclStop}
use Rattle.hack_decls.specs.declared.stop.DeclStop.TheVariants as stop
use Rattle.hack_decls.specs.DeclState.{DeclState}

-- that edges are full is said only where one was refused in the call, or the count of refusals stands at its end
abbrev pub HasCause : ℕ → ℕ → DeclStop → Type 0
HasCause old new (stop.EdgesFull full) = (old < new) ⊎ (new ≡ 2 ^ 64 - 1)
HasCause old new stop.NoMemory = Unit {0}

-- what every call keeps, refused or not
pub record Keeps {Base Held A : Type 0} (old : DeclState Base Held) (result : Result A DeclStop) (new : DeclState Base Held) : Type 0 where
  pub map : new.map ≡ old.map
  pub base : new.base ≡ old.base
  pub noted : (t : SymbolId) → IsTrue (old.noted t) → IsTrue (new.noted t)
  pub held : (x : Held) → Contains old.held x → Contains new.held x
  pub fulls : old.fulls ≤ new.fulls
  pub clean : IsTrue new.clean → IsTrue old.clean
  -- an answer leaves the count of refusals, and whether there was one
  pub steady : IfOk result (λ answer. (new.fulls ≡ old.fulls) × (new.clean ≡ old.clean))
  pub cause : IfErr result (HasCause old.fulls new.fulls)

-- the symbol is noted, but maybe where memory ran out
abbrev pub IsNoted : {A : Type 0} → SymbolId → Result A DeclStop → (SymbolId → Bool) → Type 0
IsNoted s (Ok answer) noted = IsTrue (noted s)
IsNoted s (Err (stop.EdgesFull full)) noted = IsTrue (noted s)
IsNoted s (Err stop.NoMemory) noted = Unit {0}

-- one lookup of a symbol
pub record Looks {Base Held A : Type 0} (old : DeclState Base Held) (s : SymbolId) (result : Result A DeclStop) (new : DeclState Base Held) (Is : Option Folded → A → Type 0) : Type 0 where
  pub keeps : Keeps old result new
  pub noted : IsNoted s result new.noted
  -- no other symbol is noted
  pub only : (t : SymbolId) → IsTrue (new.noted t) → IsTrue (old.noted t) ⊎ (t ≡ s)
  pub answer : IfOk result (Is (old.map s))
