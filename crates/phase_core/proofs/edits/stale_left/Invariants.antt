use Rattle.std.proofs.Common.{◌≡◌, ◌⊎◌, true}
use Rattle.phase_core.specs.Picked.{Picked}
use Rattle.std.specs.FinSet as set
use Rattle.phase_core.proofs.edits.stale_left.Given as goal

abbrev pub invariant-loop-symbol : goal.invariant-loop-symbol
invariant-loop-symbol l = Picked (λ u. u) (λ u. (set.contains l.stale u ≡ true) ⊎ (set.contains l.refreshed u ≡ true)) l.symbol-items l.symbol-index l.set
