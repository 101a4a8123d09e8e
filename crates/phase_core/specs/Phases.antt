-- The events that begin, end and share out the work of a phase: each with its case and its effect.
use Rattle.std.specs.Prelude.{◌≡◌, ℕ, Bool, true, false, Option, None, Some, slice_get, replicate}
use Rattle.std.specs.FinMap as finite
use Rattle.std.specs.FinSet as set
use Rattle.hack_types.specs.declared.ids.SymbolId.{SymbolId}
use Rattle.phase_core.specs.declared.state.Decl.{Decl}
use Rattle.phase_core.specs.declared.state.CoreState.{CoreState}
use Rattle.phase_core.specs.declared.state.CoreVerdict.{CoreVerdict}
use Rattle.phase_core.specs.declared.state.CoreWorker.TheVariants.{Idle, Work}
use Rattle.phase_core.specs.World.{IsDeclared}
use Rattle.phase_core.specs.Images.{Known}
use Rattle.phase_core.specs.States.{AllAreIdle, NoneIsClaimed, AtWork, unclaimed, with_worker}

-- ---- Sweep

abbrev pub MaySweep : CoreState → Type 0
MaySweep state = AllAreIdle state

pub record Swept (state next : CoreState) : Type 0 where
  -- claimed records go
  pub records : (s : SymbolId) → finite.get next.records s ≡ unclaimed (finite.get state.records s)
  -- and all else stays
  pub rest : next ≡ record state { records = next.records }

-- ---- Start

abbrev pub MayStart : CoreState → Type 0
MayStart state = AllAreIdle state × NoneIsClaimed state

-- that many idle workers, and nobody asked them to stop
abbrev pub Started : CoreState → ℕ → CoreState → Type 0
Started state workers next = next ≡ record state { workers = replicate workers Idle; raised = false }

-- ---- Take

-- at work on this symbol, with `check`
abbrev pub IsCheckOf : SymbolId → SymbolId → Bool → Known → Type 0
IsCheckOf symbol own check known = (check ≡ true) × (own ≡ symbol)

-- a worker checks this symbol's unit
abbrev pub IsChecked : CoreState → SymbolId → Type 0
IsChecked state symbol = (worker : ℕ) × AtWork state worker (IsCheckOf symbol)

-- the job may be had: with `check` a stale unit that no worker checks, else a declared symbol
abbrev pub IsJob : CoreState → SymbolId → Bool → Type 0
IsJob state symbol true = (set.contains state.stale symbol ≡ true) × (¬ IsChecked state symbol)
IsJob state symbol false = IsDeclared state.world symbol

abbrev pub MayTake : CoreState → ℕ → SymbolId → Bool → Type 0
MayTake state worker symbol check = (slice_get state.workers worker ≡ Some Idle) × IsJob state symbol check

-- the worker is at work on it, and knows nothing yet
abbrev pub Taken : CoreState → ℕ → SymbolId → Bool → CoreState → Type 0
Taken state worker symbol check next = next ≡ with_worker state worker (Work symbol check finite.empty)

-- ---- Finish

abbrev pub MayFinish : CoreState → ℕ → Type 0
MayFinish state worker = AtWork state worker (λ _ _ _. Unit {0})

-- the verdict of a unit with its text and names, and with what the worker knows; a symbol that isn't declared has none, but
-- no worker is at work on one with `check`
abbrev pub verdict_in : Option Decl → Known → Option CoreVerdict
verdict_in None known = None
verdict_in (Some d) known = Some (record { text = d.text; names = d.names; known = known })

abbrev pub put_verdict : CoreState → SymbolId → Option CoreVerdict → CoreState
put_verdict state symbol None = state
put_verdict state symbol (Some v) = record state { verdicts = finite.insert state.verdicts symbol v }

-- the verdicts with that of a unit
abbrev pub with_verdict : CoreState → SymbolId → Option Decl → Known → CoreState
with_verdict state symbol unit known = put_verdict state symbol (verdict_in unit known)

-- with `check` the unit has a verdict, with its text and names and what the worker knows, and is no longer stale
abbrev pub finished : CoreState → SymbolId → Bool → Known → CoreState
finished state symbol false known = state
finished state symbol true known =
    let judged = with_verdict state symbol (finite.get state.world symbol) known in record judged { stale = set.remove state.stale symbol }

-- the worker is idle
abbrev pub Finished : CoreState → ℕ → CoreState → Type 0
Finished state worker next = AtWork state worker (λ symbol check known. next ≡ with_worker (finished state symbol check known) worker Idle)

-- ---- Raise and Hear

abbrev pub Raised : CoreState → CoreState → Type 0
Raised state next = next ≡ record state { raised = true }

abbrev pub MayHear : CoreState → ℕ → Type 0
MayHear state worker = AtWork state worker (λ _ _ _. state.raised ≡ true)

-- the worker is idle
abbrev pub Heard : CoreState → ℕ → CoreState → Type 0
Heard state worker next = next ≡ with_worker state worker Idle
