-- What is said of an event that changes a state in place, and of events in order. No public clause names these.
use Rattle.std.specs.Prelude.{Bool, true, false, List}
use Rattle.phase_core.specs.declared.event.Event.{Event}
use Rattle.phase_core.specs.declared.state.CoreState.{CoreState}
use Rattle.phase_core.specs.Steps.{Runs, IsStuck}

-- yes where there is the case, and the state has the effect then; no where there is none
abbrev pub Acts : Type 0 → (CoreState → Type 0) → CoreState → Bool → Type 0
Acts Case Effect next true = Case × Effect next
Acts Case Effect next false = ¬ Case

-- yes where the events lead to the state; no where one of them has no case
abbrev pub ActsAll : CoreState → List Event → CoreState → Bool → Type 0
ActsAll state events next true = Runs state events next
ActsAll state events next false = IsStuck state events
