use Rattle.std.proofs.Common.{◌≡◌, ◌⊎◌, true}
use Rattle.phase_core.specs.Picked.{Picked}
use Rattle.std.specs.FinSet as set
use Rattle.phase_core.specs.World.{IsDeclared}
use Rattle.phase_core.proofs.edits.outdated.Given as goal

abbrev pub invariant-loop-symbol : goal.invariant-loop-symbol
invariant-loop-symbol l = Picked (λ u. u) (λ u. (¬ IsDeclared l.world u) ⊎ (set.contains l.refreshed u ≡ true)) l.symbol-items l.symbol-index l.set
