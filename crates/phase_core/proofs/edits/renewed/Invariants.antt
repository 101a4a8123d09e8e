use Rattle.std.proofs.Common.{◌≡◌, ◌≢◌, ◌⊎◌, true}
use Rattle.phase_core.specs.Picked.{Picked}
use Rattle.std.specs.FinSet as set
use Rattle.phase_core.specs.World.{told_at}
use Rattle.phase_core.proofs.edits.renewed.Given as goal

abbrev pub invariant-loop-symbol : goal.invariant-loop-symbol
invariant-loop-symbol l = Picked (λ u. u) (λ u. (set.contains l.lookers u ≡ true) ⊎ (told_at l.old u ≢ told_at l.new u)) l.symbol-items l.symbol-index l.set
