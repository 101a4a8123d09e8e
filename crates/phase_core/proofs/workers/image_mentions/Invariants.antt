use Rattle.phase_core.specs.Inside.{NoneSoFar}
use Rattle.std.specs.FinMap as finite
use Rattle.phase_core.specs.Workers.{Mentions}
use Rattle.phase_core.proofs.workers.image_mentions.Given as goal

abbrev pub invariant-loop-member : goal.invariant-loop-member
invariant-loop-member l = NoneSoFar (λ s. Mentions (finite.get l.image s) l.symbol) l.member-items l.member-index
