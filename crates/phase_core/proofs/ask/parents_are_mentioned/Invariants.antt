use Rattle.phase_core.specs.Inside.{AllSoFar}
use Rattle.std.specs.FinMap as finite
use Rattle.phase_core.specs.World.{MentionsParents}
use Rattle.phase_core.proofs.ask.parents_are_mentioned.Given as goal

abbrev pub invariant-loop-symbol : goal.invariant-loop-symbol
invariant-loop-symbol l = AllSoFar (λ s. MentionsParents (finite.get l.world s)) l.symbol-items l.symbol-index
