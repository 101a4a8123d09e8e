-- When a source or a sink may answer a fault (docs/definitions.md, Faults).
use Rattle.std.specs.Prelude.{◌+◌, ◌-◌, ◌^◌, ◌≤◌, ℕ, min, Result, OnErr}

-- the count of faults rose, or is 2^64 - 1, where it stays
abbrev pub Rose : ℕ → ℕ → Type 0
Rose before now = min (before + 1) (2 ^ 64 - 1) ≤ now

-- a call's count of faults: it never falls, and where the call answers a fault it rose; it may rise at `Ok` too, as for a
-- fault from which the call recovered
pub record HasCause {T E : Type 0} (before now : ℕ) (result : Result T E) : Type 0 where
  pub later : before ≤ now
  pub failed : OnErr result (Rose before now)
