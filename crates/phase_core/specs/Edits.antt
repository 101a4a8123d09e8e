-- The event that the master takes another world: its case and its effect.
use Rattle.std.specs.Prelude.{◌≡◌, ◌≢◌, ◌⊎◌, ◌↔◌, true, None}
use Rattle.std.specs.FinMap as finite
use Rattle.std.specs.FinSet as set
use Rattle.hack_types.specs.declared.ids.SymbolId.{SymbolId}
use Rattle.phase_core.specs.declared.state.CoreState.{CoreState}
use Rattle.phase_core.specs.World.{World, IsDeclared, seen_at, told_at, ParentsAreMentioned}
use Rattle.phase_core.specs.Closures.{Reaches}
use Rattle.phase_core.specs.Edges.{HasFold, HasCheck}
use Rattle.phase_core.specs.States.{AllAreIdle, unclaimed}

abbrev pub MayEdit : CoreState → World → Type 0
MayEdit state world = AllAreIdle state × ParentsAreMentioned world

-- its version, its parents or its mentions differ, or it is declared on one side only
abbrev pub IsChanged : CoreState → World → SymbolId → Type 0
IsChanged state world s = seen_at state.world s ≢ seen_at world s

-- a changed symbol is reached from it over fold edges, maybe in no step
abbrev pub IsEvicted : CoreState → World → SymbolId → Type 0
IsEvicted state world s = (t : SymbolId) × IsChanged state world t × Reaches (HasFold state.edges) s t

-- a unit that is new, that has another text or other names, or that has a check edge to an evicted symbol
abbrev pub BecomesStale : CoreState → World → SymbolId → Type 0
BecomesStale state world u =
    IsDeclared world u × ((told_at state.world u ≢ told_at world u) ⊎ ((s : SymbolId) × IsEvicted state world s × HasCheck state.edges u s))

pub record Edited (state : CoreState) (world : World) (next : CoreState) : Type 0 where
  -- the world is the new one
  pub world_is : next.world ≡ world
  -- the records of evicted symbols go
  pub records_gone : (s : SymbolId) → IsEvicted state world s → finite.get next.records s ≡ None
  -- of the others the claimed ones go too, and the held ones stay as they are
  pub records_kept : (s : SymbolId) → ¬ IsEvicted state world s → finite.get next.records s ≡ unclaimed (finite.get state.records s)
  -- a fold edge stays exactly where it leads from a declared symbol that isn't evicted
  pub folds : (s t : SymbolId) → HasFold next.edges s t ↔ (HasFold state.edges s t × IsDeclared world s × (¬ IsEvicted state world s))
  -- a check edge stays exactly where it leads from a declared symbol that doesn't become stale here, stale before or not
  pub checks : (u t : SymbolId) → HasCheck next.edges u t ↔ (HasCheck state.edges u t × IsDeclared world u × (¬ BecomesStale state world u))
  -- stale are the declared symbols that were it, and those that become it
  pub stale : (u : SymbolId) → (set.contains next.stale u ≡ true) ↔ (IsDeclared world u × ((set.contains state.stale u ≡ true) ⊎ BecomesStale state world u))
  -- what is no longer declared, or becomes stale, has no verdict
  pub verdicts_gone : (u : SymbolId) → (¬ IsDeclared world u) ⊎ BecomesStale state world u → finite.get next.verdicts u ≡ None
  -- the other verdicts stay
  pub verdicts_kept : (u : SymbolId) → IsDeclared world u → ¬ BecomesStale state world u → finite.get next.verdicts u ≡ finite.get state.verdicts u
  -- the workers are as before
  pub workers : next.workers ≡ state.workers
  -- and so is whether they are to stop
  pub raised : next.raised ≡ state.raised
