-- What the cases of events ask of a state.
use Rattle.std.specs.Prelude.{◌≡◌, ℕ, Bool, [], Option, None, Some, slice_get, slice_set, All, true, false}
use Rattle.std.specs.FinMap as finite
use Rattle.std.specs.FinSet as set
use Rattle.hack_types.specs.declared.ids.SymbolId.{SymbolId}
use Rattle.phase_core.specs.declared.state.CoreState.{CoreState}
use Rattle.phase_core.specs.declared.state.CoreRecord.{CoreRecord}
use Rattle.phase_core.specs.declared.state.CoreRecord.TheVariants.{Claimed, Held}
use Rattle.phase_core.specs.declared.state.CoreWorker.{CoreWorker}
use Rattle.phase_core.specs.declared.state.CoreWorker.TheVariants.{Idle, Work}
use Rattle.phase_core.specs.Images.{Image, Known}

-- the state at the start
abbrev pub empty_state : CoreState
empty_state =
    record {
      world = finite.empty;
      records = finite.empty;
      edges = set.empty;
      stale = set.empty;
      verdicts = finite.empty;
      workers = [];
      raised = false;
    }

-- ---- records

-- held, with an image that has P
abbrev pub Holds : Option CoreRecord → (Image → Type 0) → Type 0
Holds None P = ⊥
Holds (Some (Claimed worker)) P = ⊥
Holds (Some (Held image)) P = P image

-- claimed by this worker
abbrev pub IsClaim : CoreState → ℕ → SymbolId → Type 0
IsClaim state worker symbol = finite.get state.records symbol ≡ Some (Claimed worker)

-- nothing is claimed
abbrev pub NoneIsClaimed : CoreState → Type 0
NoneIsClaimed state = (worker : ℕ) (symbol : SymbolId) → ¬ IsClaim state worker symbol

-- whether it is claimed, by whomever
abbrev pub is_claimed : Option CoreRecord → Bool
is_claimed None = false
is_claimed (Some (Claimed worker)) = true
is_claimed (Some (Held image)) = false

-- a record that isn't claimed
abbrev pub unclaimed : Option CoreRecord → Option CoreRecord
unclaimed None = None
unclaimed (Some (Claimed worker)) = None
unclaimed (Some (Held image)) = Some (Held image)

-- ---- workers

-- at work, on a symbol, with `check` or not, and with images such that P
abbrev pub Works : Option CoreWorker → (SymbolId → Bool → Known → Type 0) → Type 0
Works None P = ⊥
Works (Some Idle) P = ⊥
Works (Some (Work symbol check known)) P = P symbol check known

-- the worker of this number is at work so
abbrev pub AtWork : CoreState → ℕ → (SymbolId → Bool → Known → Type 0) → Type 0
AtWork state worker P = Works (slice_get state.workers worker) P

-- no worker is at work
abbrev pub AllAreIdle : CoreState → Type 0
AllAreIdle state = All (λ w. w ≡ Idle) state.workers

-- the worker of this number becomes this
abbrev pub with_worker : CoreState → ℕ → CoreWorker → CoreState
with_worker state worker w = record state { workers = slice_set state.workers worker w }
