-- What the helpers of an edit say, with sets in the place of what is evicted and of what becomes stale. No public clause names these.
use Rattle.std.specs.Prelude.{◌≡◌, ◌≢◌, ◌⊎◌, true, false, None, if◌then◌else◌}
use Rattle.std.specs.FinMap as finite
use Rattle.std.specs.FinSet as set
use Rattle.hack_types.specs.declared.ids.SymbolId.{SymbolId}
use Rattle.phase_core.specs.declared.edge.CoreEdge.{CoreEdge}
use Rattle.phase_core.specs.declared.state.CoreRecord.{CoreRecord}
use Rattle.phase_core.specs.declared.state.CoreState.{CoreState}
use Rattle.phase_core.specs.declared.state.CoreVerdict.{CoreVerdict}
use Rattle.phase_core.specs.Orders.{symbol_order}
use Rattle.phase_core.specs.World.{World, IsDeclared, told_at}
use Rattle.phase_core.specs.Edges.{Edges, HasCheck}
use Rattle.phase_core.specs.States.{unclaimed}
use Rattle.phase_core.specs.Says.{HasAll}

abbrev pub Symbols : Type 0
Symbols = set.FinSet symbol_order

-- a check edge leads from it into the set
abbrev pub LooksInto : Edges → Symbols → SymbolId → Type 0
LooksInto edges evicted u = (s : SymbolId) × (set.contains evicted s ≡ true) × HasCheck edges u s

-- it becomes stale
abbrev pub Refreshed : CoreState → World → Symbols → SymbolId → Type 0
Refreshed state world evicted u = IsDeclared world u × ((told_at state.world u ≢ told_at world u) ⊎ LooksInto state.edges evicted u)

-- it looked at an evicted symbol, or has another text or other names
abbrev pub IsRenewed : World → World → Symbols → SymbolId → Type 0
IsRenewed old new lookers u = (set.contains lookers u ≡ true) ⊎ (told_at old u ≢ told_at new u)

-- it isn't declared, or becomes stale
abbrev pub IsOutdated : World → Symbols → SymbolId → Type 0
IsOutdated world refreshed u = (¬ IsDeclared world u) ⊎ (set.contains refreshed u ≡ true)

-- it is in one of the sets
abbrev pub IsInOne : Symbols → Symbols → SymbolId → Type 0
IsInOne a b s = (set.contains a s ≡ true) ⊎ (set.contains b s ≡ true)

-- the edge stays
abbrev pub StaysEdge : World → Symbols → Symbols → CoreEdge → Type 0
StaysEdge world evicted refreshed e = IsDeclared world e.from × (set.contains (if e.fold then evicted else refreshed) e.from ≡ false)

-- the fold edge the other way round
abbrev pub turn : CoreEdge → CoreEdge
turn e = record { fold = true; from = e.to; to = e.from }

-- the records that aren't claimed, without those of evicted symbols
abbrev pub RecordsLeft : finite.FinMap symbol_order CoreRecord → Symbols → finite.FinMap symbol_order CoreRecord → Type 0
RecordsLeft records evicted left = (s : SymbolId) → finite.get left s ≡ (if set.contains evicted s then None else unclaimed (finite.get records s))

-- the verdicts that aren't outdated
pub record VerdictsLeft (verdicts : finite.FinMap symbol_order CoreVerdict) (world : World) (refreshed : Symbols) (left : finite.FinMap symbol_order CoreVerdict) : Type 0 where
  pub gone : (u : SymbolId) → IsOutdated world refreshed u → finite.get left u ≡ None
  pub kept : (u : SymbolId) → ¬ IsOutdated world refreshed u → finite.get left u ≡ finite.get verdicts u

-- what an edit leaves
pub record Left (state : CoreState) (world : World) (evicted refreshed : Symbols) (next : CoreState) : Type 0 where
  pub world_is : next.world ≡ world
  pub records : RecordsLeft state.records evicted next.records
  pub edges : HasAll (λ e. (set.contains state.edges e ≡ true) × StaysEdge world evicted refreshed e) next.edges
  pub stale : HasAll (λ u. IsDeclared world u × IsInOne state.stale refreshed u) next.stale
  pub verdicts : VerdictsLeft state.verdicts world refreshed next.verdicts
  pub workers : next.workers ≡ state.workers
  pub raised : next.raised ≡ state.raised
