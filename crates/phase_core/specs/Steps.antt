-- The step: which event has a case in a state, and to what state it leads. Then runs of events.
use Rattle.std.specs.Prelude.{◌≡◌, ◌⊎◌, List, [], ◌∷◌, Option, None, Some}
use Rattle.phase_core.specs.declared.event.Event.{Event}
use Rattle.phase_core.specs.declared.event.Event.TheVariants.{Edit, Sweep, Start, Take, Note, Read, Fold, Claim, Publish, Finish, Raise, Hear}
use Rattle.phase_core.specs.declared.state.CoreState.{CoreState}
use Rattle.phase_core.specs.Edits.{MayEdit, Edited}
use Rattle.phase_core.specs.Phases.{MaySweep, Swept, MayStart, Started, MayTake, Taken, MayFinish, Finished, Raised, MayHear, Heard}
use Rattle.phase_core.specs.Workers.{MayNote, Noted, MayRead, DidRead, MayFold, Folded, MayClaim, DidClaim, MayPublish, Published}

-- the event has a case
abbrev pub HasCase : CoreState → Event → Type 0
HasCase state (Edit world) = MayEdit state world
HasCase state Sweep = MaySweep state
HasCase state (Start workers) = MayStart state
HasCase state (Take worker symbol check) = MayTake state worker symbol check
HasCase state (Note worker edge) = MayNote state worker edge
HasCase state (Read worker symbol) = MayRead state worker symbol
HasCase state (Fold worker symbol) = MayFold state worker symbol
HasCase state (Claim worker symbol) = MayClaim state worker symbol
HasCase state (Publish worker symbol) = MayPublish state worker symbol
HasCase state (Finish worker) = MayFinish state worker
HasCase state Raise = Unit {0}
HasCase state (Hear worker) = MayHear state worker

-- what the event makes of the state
abbrev pub HasEffect : CoreState → Event → CoreState → Type 0
HasEffect state (Edit world) next = Edited state world next
HasEffect state Sweep next = Swept state next
HasEffect state (Start workers) next = Started state workers next
HasEffect state (Take worker symbol check) next = Taken state worker symbol check next
HasEffect state (Note worker edge) next = Noted state edge next
HasEffect state (Read worker symbol) next = DidRead state worker symbol next
HasEffect state (Fold worker symbol) next = Folded state worker symbol next
HasEffect state (Claim worker symbol) next = DidClaim state worker symbol next
HasEffect state (Publish worker symbol) next = Published state symbol next
HasEffect state (Finish worker) next = Finished state worker next
HasEffect state Raise next = Raised state next
HasEffect state (Hear worker) next = Heard state worker next

-- an answer: a state with the effect where there is the case, and none where there is none
abbrev pub Answers : Type 0 → (CoreState → Type 0) → Option CoreState → Type 0
Answers Case Effect None = ¬ Case
Answers Case Effect (Some next) = Case × Effect next

-- the answer to an event
abbrev pub Steps : CoreState → Event → Option CoreState → Type 0
Steps state event answer = Answers (HasCase state event) (HasEffect state event) answer

-- the events lead from one state to another, each with its case
abbrev pub Runs : CoreState → List Event → CoreState → Type 0
Runs state [] end = state ≡ end
Runs state (event ∷ events) end = (next : CoreState) × HasCase state event × HasEffect state event next × Runs next events end

-- after some of the events, which lead to a state, the next one has no case
abbrev pub IsStuck : CoreState → List Event → Type 0
IsStuck state [] = ⊥
IsStuck state (event ∷ events) = (¬ HasCase state event) ⊎ ((next : CoreState) × HasCase state event × HasEffect state event next × IsStuck next events)
