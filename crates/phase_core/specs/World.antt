-- Worlds: which symbols are declared, and as what. Equal numbers stand for equal texts and for equal signatures.
use Rattle.std.specs.Prelude.{ℕ, List, Option, None, Some, IsSome, IsSomeAnd, Contains}
use Rattle.std.specs.Option.{option_map}
use Rattle.std.specs.FinMap.{FinMap, get}
use Rattle.hack_types.specs.declared.ids.SymbolId.{SymbolId}
use Rattle.phase_core.specs.declared.state.Decl.{Decl}
use Rattle.phase_core.specs.declared.state.CoreSeen.{CoreSeen}
use Rattle.phase_core.specs.Orders.{symbol_order}

abbrev pub World : Type 0
World = FinMap symbol_order Decl

-- the symbol is declared
abbrev pub IsDeclared : World → SymbolId → Type 0
IsDeclared world s = IsSome (get world s)

-- what others see of a declaration: not its text, and not what its text names
abbrev pub seen : Decl → CoreSeen
seen d = record { version = d.version; parents = d.parents; mentions = d.mentions }

-- what is seen of a symbol: nothing where it isn't declared
abbrev pub seen_at : World → SymbolId → Option CoreSeen
seen_at world s = option_map seen (get world s)

-- its text and the symbols that its text names
abbrev pub told : Decl → ℕ × List SymbolId
told d = (d.text, d.names)

abbrev pub told_at : World → SymbolId → Option (ℕ × List SymbolId)
told_at world s = option_map told (get world s)

-- the second is a parent of the first
abbrev pub IsParent : World → SymbolId → SymbolId → Type 0
IsParent world s t = IsSomeAnd (get world s) (λ d. Contains d.parents t)

-- the declaration's text names the symbol
abbrev pub Names : Option Decl → SymbolId → Type 0
Names None t = ⊥
Names (Some d) t = Contains d.names t

-- each parent is among the mentions, where there is a declaration
abbrev pub MentionsParents : Option Decl → Type 0
MentionsParents None = Unit {0}
MentionsParents (Some d) = (t : SymbolId) → Contains d.parents t → Contains d.mentions t

-- each parent of a declared symbol is among its mentions
abbrev pub ParentsAreMentioned : World → Type 0
ParentsAreMentioned world = (s : SymbolId) → MentionsParents (get world s)
