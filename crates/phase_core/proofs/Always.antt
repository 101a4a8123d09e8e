-- What stands stands after every run.
use Rattle.std.proofs.Common.{subst, List, [], ◌∷◌}
use Rattle.phase_core.specs.declared.event.Event.{Event}
use Rattle.phase_core.specs.declared.event.Event.TheVariants.{Edit, Sweep, Start, Take, Note, Read, Fold, Claim, Publish, Finish, Raise, Hear}
use Rattle.phase_core.specs.declared.state.CoreState.{CoreState}
use Rattle.phase_core.specs.States.{empty_state}
use Rattle.phase_core.specs.Steps.{HasCase, HasEffect, Runs}
use Rattle.phase_core.specs.Sound.{Sound}
use Rattle.phase_core.proofs.Standing.{AllStands, empty_stands, sound_standing}
use Rattle.phase_core.proofs.Kept.{sweep_keeps, start_keeps, take_keeps, note_keeps, read_keeps, fold_keeps, claim_keeps, publish_keeps, finish_keeps, raise_keeps, hear_keeps}
use Rattle.phase_core.proofs.EditKept.{edit_keeps}

pub step_keeps : (state next : CoreState) (event : Event) → AllStands state → HasCase state event → HasEffect state event next → AllStands next
step_keeps state next (Edit world) st may h = edit_keeps state next world st may h
step_keeps state next Sweep st may h = sweep_keeps state next st h
step_keeps state next (Start workers) st may h = start_keeps state next st workers h
step_keeps state next (Take worker symbol check) st may h = take_keeps state next st worker symbol check h
step_keeps state next (Note worker edge) st may h = note_keeps state next st worker edge may h
step_keeps state next (Read worker symbol) st may h = read_keeps state next st worker symbol may h
step_keeps state next (Fold worker symbol) st may h = fold_keeps state next st worker symbol may h
step_keeps state next (Claim worker symbol) st may h = claim_keeps state next st worker symbol h
step_keeps state next (Publish worker symbol) st may h = publish_keeps state next st worker symbol may h
step_keeps state next (Finish worker) st may h = finish_keeps state next worker st h
step_keeps state next Raise st may h = raise_keeps state next st h
step_keeps state next (Hear worker) st may h = hear_keeps state next st worker h

pub run_keeps : (events : List Event) (state end : CoreState) → AllStands state → Runs state events end → AllStands end
run_keeps [] state end st h = subst AllStands h st
run_keeps (event ∷ events) state end st h = run_keeps events h.0 end (step_keeps state h.0 event st h.1 h.2) h.3

pub always_sound : (events : List Event) (state : CoreState) → Runs empty_state events state → Sound state
always_sound events state h = sound_standing state (run_keeps events empty_state state empty_stands h)
