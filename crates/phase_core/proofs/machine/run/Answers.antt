use Rattle.std.proofs.Common.{sym, subst, List, Option, Some, None}
use Rattle.std.specs.Prelude.{MatchOption, IfSome}
use Rattle.phase_core.specs.declared.event.Event.{Event}
use Rattle.phase_core.specs.declared.state.CoreState.{CoreState}
use Rattle.phase_core.specs.States.{empty_state}
use Rattle.phase_core.specs.Steps.{Runs, IsStuck}
use Rattle.phase_core.specs.Sound.{Sound}
use Rattle.phase_core.proofs.Running.{ran}
use Rattle.phase_core.proofs.Always.{always_sound}
use Rattle.phase_core.proofs.machine.run.Goals as goal

sound_by : (events : List Event) (answer : Option CoreState) → MatchOption answer (IsStuck empty_state events) (Runs empty_state events) → IfSome answer Sound
sound_by events None h = tt
sound_by events (Some state) h = always_sound events state h

pub returns : goal.returns
returns c =
    let follows = subst (λ (answer : Option CoreState). MatchOption answer (IsStuck empty_state c.args.events.now) (Runs empty_state c.args.events.now)) (sym c.then_some.ensures)
    (ran c.empty-state.result empty_state c.act_all.new.state c.args.events.now c.in_ok-done.done c.empty-state.ensures c.in_ok-done.ensures) in
    record { follows = follows; sound = sound_by c.args.events.now c.then_some.result follows }
