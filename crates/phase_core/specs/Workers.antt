-- The events of a worker at its job: each with its case and its effect.
use Rattle.std.specs.Prelude.{◌≡◌, ◌⊎◌, ℕ, Bool, true, false, Option, None, Some, Contains}
use Rattle.std.specs.FinMap as finite
use Rattle.std.specs.FinSet as set
use Rattle.hack_types.specs.declared.ids.SymbolId.{SymbolId}
use Rattle.phase_core.specs.declared.edge.CoreEdge.{CoreEdge}
use Rattle.phase_core.specs.declared.state.CoreSeen.{CoreSeen}
use Rattle.phase_core.specs.declared.state.CoreState.{CoreState}
use Rattle.phase_core.specs.declared.state.CoreRecord.TheVariants.{Claimed, Held}
use Rattle.phase_core.specs.declared.state.CoreWorker.TheVariants.{Work}
use Rattle.phase_core.specs.World.{World, IsDeclared, Names}
use Rattle.phase_core.specs.Closures.{InClosure}
use Rattle.phase_core.specs.Images.{Image, Known, IsImage}
use Rattle.phase_core.specs.Edges.{HasCheck, IsCovered}
use Rattle.phase_core.specs.States.{AtWork, Holds, IsClaim, with_worker}

-- ---- Note

-- what an image shows of a symbol mentions the other symbol
abbrev pub Mentions : Option (Option CoreSeen) → SymbolId → Type 0
Mentions None symbol = ⊥
Mentions (Some None) symbol = ⊥
Mentions (Some (Some sight)) symbol = Contains sight.mentions symbol

-- there is an image, which shows a declaration that mentions the symbol
abbrev pub ShowsMention : Option Image → SymbolId → Type 0
ShowsMention None symbol = ⊥
ShowsMention (Some image) symbol = (s : SymbolId) × Mentions (finite.get image s) symbol

-- an image in `known` does
abbrev pub IsMentioned : Known → SymbolId → Type 0
IsMentioned known symbol = (k : SymbolId) × ShowsMention (finite.get known k) symbol

-- where a check may look: at its own symbol, at what its unit names, and at what is mentioned in what it knows
abbrev pub IsWithin : World → SymbolId → Known → SymbolId → Type 0
IsWithin world symbol known to = (to ≡ symbol) ⊎ (Names (finite.get world symbol) to ⊎ IsMentioned known to)

-- a check edge of the worker's own unit
abbrev pub IsOwnCheck : World → SymbolId → Bool → Known → CoreEdge → Type 0
IsOwnCheck world symbol check known edge = (check ≡ true) × (edge.fold ≡ false) × (edge.from ≡ symbol) × IsWithin world symbol known edge.to

-- a fold edge from a declared symbol into its closure
abbrev pub IsInnerFold : World → CoreEdge → Type 0
IsInnerFold world edge = (edge.fold ≡ true) × IsDeclared world edge.from × InClosure world edge.from edge.to

abbrev pub MayNote : CoreState → ℕ → CoreEdge → Type 0
MayNote state worker edge = AtWork state worker (λ symbol check known. IsOwnCheck state.world symbol check known edge ⊎ IsInnerFold state.world edge)

-- the edge is there
abbrev pub Noted : CoreState → CoreEdge → CoreState → Type 0
Noted state edge next = next ≡ record state { edges = set.insert state.edges edge }

-- ---- Read and Fold

-- the check edge from the symbol that the worker is at work on is there
abbrev pub HasNoted : CoreState → ℕ → SymbolId → Type 0
HasNoted state worker symbol = AtWork state worker (λ own _ _. HasCheck state.edges own symbol)

-- the worker knows this image too
abbrev pub Learned : CoreState → ℕ → SymbolId → Image → CoreState → Type 0
Learned state worker symbol image next =
    AtWork state worker (λ own check known. next ≡ with_worker state worker (Work own check (finite.insert known symbol image)))

abbrev pub MayRead : CoreState → ℕ → SymbolId → Type 0
MayRead state worker symbol = HasNoted state worker symbol × Holds (finite.get state.records symbol) (λ _. Unit {0})

-- the worker knows the image that is held
abbrev pub DidRead : CoreState → ℕ → SymbolId → CoreState → Type 0
DidRead state worker symbol next = Holds (finite.get state.records symbol) (λ image. Learned state worker symbol image next)

abbrev pub MayFold : CoreState → ℕ → SymbolId → Type 0
MayFold state worker symbol = HasNoted state worker symbol × IsCovered state.world state.edges symbol

-- the worker knows the image in this world
abbrev pub Folded : CoreState → ℕ → SymbolId → CoreState → Type 0
Folded state worker symbol next = (image : Image) × IsImage state.world symbol image × Learned state worker symbol image next

-- ---- Claim and Publish

abbrev pub MayClaim : CoreState → ℕ → SymbolId → Type 0
MayClaim state worker symbol = AtWork state worker (λ _ _ _. IsDeclared state.world symbol × (finite.get state.records symbol ≡ None))

-- the record is claimed by the worker
abbrev pub DidClaim : CoreState → ℕ → SymbolId → CoreState → Type 0
DidClaim state worker symbol next = next ≡ record state { records = finite.insert state.records symbol (Claimed worker) }

abbrev pub MayPublish : CoreState → ℕ → SymbolId → Type 0
MayPublish state worker symbol = IsClaim state worker symbol × IsCovered state.world state.edges symbol

-- the record is held, with the image in this world
abbrev pub Published : CoreState → SymbolId → CoreState → Type 0
Published state symbol next =
    (image : Image) × IsImage state.world symbol image × (next ≡ record state { records = finite.insert state.records symbol (Held image) })
