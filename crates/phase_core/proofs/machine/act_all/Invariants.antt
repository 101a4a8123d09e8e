use Rattle.std.proofs.Common.{take}
use Rattle.phase_core.specs.Steps.{Runs}
use Rattle.phase_core.proofs.machine.act_all.Given as goal

abbrev pub invariant-loop-event : goal.invariant-loop-event
invariant-loop-event l = Runs l.fn.state (take l.event-index l.events) l.state
