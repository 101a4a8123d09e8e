-- What a call does that asks for declarations: its answer is right for every map that has what it noted, and it notes only what is
-- named by what it was given or by a declaration that was noted before. All checks have this one clause.
use Rattle.std.specs.Prelude.{◌≡◌, ◌↔◌, Bool, Result, IsTrue, IfOk, IfSome}
use Rattle.hack_types.specs.declared.ids.SymbolId.{SymbolId}
use Rattle.hack_decls.specs.declared.stop.DeclStop.{DeclStop}
use Rattle.hack_decls.specs.DeclState.{DeclState, Map, Symbols}
use Rattle.hack_decls.specs.Looks.{Keeps}
use Rattle.hack_decls.specs.Names.{FoldedIn}

-- the two maps have the same under each of these symbols
abbrev pub Agree : Symbols → Map → Map → Type 0
Agree symbols map other = (s : SymbolId) → IsTrue (symbols s) → map s ≡ other s

-- each symbol of the first set is in the second
abbrev pub Within : Symbols → Symbols → Type 0
Within symbols others = (s : SymbolId) → IsTrue (symbols s) → IsTrue (others s)

-- with each of these symbols that the set has, it has all that is named in what is declared there
abbrev pub NamesOnly : Map → Symbols → Symbols → Type 0
NamesOnly map noted symbols = (s : SymbolId) → IsTrue (noted s) → IsTrue (symbols s) → IfSome (map s) (FoldedIn symbols)

-- of the call's answer `Means` says what it is over a map, `Names` which symbols the call was given, and `Gives` which symbols
-- the answer names
pub record Asks {Base Held A : Type 0} (old : DeclState Base Held) (result : Result A DeclStop) (new : DeclState Base Held)
    (Means : Map → A → Type 0) (Names : Symbols → Type 0) (Gives : Symbols → A → Type 0) : Type 0 where
  pub keeps : Keeps old result new
  -- the answer is right over every map that has, under what was noted, what the call's own map has
  pub means : IfOk result (λ answer. (map : Map) → Agree new.noted map old.map → Means map answer)
  -- a set has all that is noted and all that the answer names, where it has what the call was given, what was noted before, and
  -- with each noted symbol that it has all that is named in what is declared there; so nothing is noted without a reason
  pub named : (symbols : Symbols) → Names symbols → Within old.noted symbols → NamesOnly old.map new.noted symbols
      → Within new.noted symbols × IfOk result (Gives symbols)

-- an answer that names nothing
abbrev pub Nothing : {A : Type 0} → Symbols → A → Type 0
Nothing symbols answer = Unit {0}

-- a call that judges: `true` exactly where this holds
abbrev pub Judges : {Base Held : Type 0} → DeclState Base Held → Result Bool DeclStop → DeclState Base Held → (Map → Type 0) → (Symbols → Type 0) → Type 0
Judges old result new Holds Names = Asks old result new (λ map answer. IsTrue answer ↔ Holds map) Names Nothing
