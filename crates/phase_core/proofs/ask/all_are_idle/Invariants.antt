use Rattle.std.proofs.Common.{◌≡◌}
use Rattle.phase_core.specs.Inside.{AllSoFar}
use Rattle.phase_core.specs.declared.state.CoreWorker.TheVariants.{Idle}
use Rattle.phase_core.proofs.ask.all_are_idle.Given as goal

abbrev pub invariant-loop-worker : goal.invariant-loop-worker
invariant-loop-worker l = AllSoFar (λ w. w ≡ Idle) l.workers l.worker-index
