use Rattle.std.proofs.Common.{Some}
use Rattle.phase_core.specs.Inside.{NoneSoFar}
use Rattle.phase_core.specs.States.{Works}
use Rattle.phase_core.specs.Phases.{IsCheckOf}
use Rattle.phase_core.proofs.ask.is_checked.Given as goal

abbrev pub invariant-loop-worker : goal.invariant-loop-worker
invariant-loop-worker l = NoneSoFar (λ w. Works (Some w) (IsCheckOf l.symbol)) l.workers l.worker-index
