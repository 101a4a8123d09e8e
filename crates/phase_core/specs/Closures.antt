-- What is reached over paths, and the closure of a symbol over parents.
use Rattle.std.specs.Prelude.{◌≡◌, List, [], ◌∷◌, Contains}
use Rattle.hack_types.specs.declared.ids.SymbolId.{SymbolId}
use Rattle.phase_core.specs.World.{World, IsParent}

-- the path begins at s, each next symbol is one that the symbol before it leads to, and it ends at t
abbrev pub IsPath : (SymbolId → SymbolId → Type 0) → SymbolId → List SymbolId → SymbolId → Type 0
IsPath leads s [] t = s ≡ t
IsPath leads s (u ∷ path) t = leads s u × IsPath leads u path t

-- t is reached from s, maybe in no step
abbrev pub Reaches : (SymbolId → SymbolId → Type 0) → SymbolId → SymbolId → Type 0
Reaches leads s t = (path : List SymbolId) × IsPath leads s path t

-- t is reached from one of these
abbrev pub ReachedFrom : (SymbolId → SymbolId → Type 0) → List SymbolId → SymbolId → Type 0
ReachedFrom leads starts t = (s : SymbolId) × Contains starts s × Reaches leads s t

-- t is in the closure of s over parents: s itself, its parents, and so on, declared or not
abbrev pub InClosure : World → SymbolId → SymbolId → Type 0
InClosure world s t = Reaches (IsParent world) s t
