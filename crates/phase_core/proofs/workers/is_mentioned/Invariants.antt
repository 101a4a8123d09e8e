use Rattle.phase_core.specs.Inside.{NoneSoFar}
use Rattle.std.specs.FinMap as finite
use Rattle.phase_core.specs.Workers.{ShowsMention}
use Rattle.phase_core.proofs.workers.is_mentioned.Given as goal

abbrev pub invariant-loop-key : goal.invariant-loop-key
invariant-loop-key l = NoneSoFar (λ k. ShowsMention (finite.get l.known k) l.symbol) l.key-items l.key-index
