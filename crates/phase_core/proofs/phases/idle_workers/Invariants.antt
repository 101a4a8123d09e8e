use Rattle.std.proofs.Common.{◌≡◌}
use Rattle.std.specs.Prelude.{replicate}
use Rattle.phase_core.specs.declared.state.CoreWorker.TheVariants.{Idle}
use Rattle.phase_core.proofs.phases.idle_workers.Given as goal

abbrev pub invariant-loop-number : goal.invariant-loop-number
invariant-loop-number l = l.workers.items ≡ replicate l._number Idle
