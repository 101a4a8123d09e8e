use Rattle.std.proofs.Common.{◌≢◌}
use Rattle.phase_core.specs.Picked.{Picked}
use Rattle.phase_core.specs.World.{seen_at}
use Rattle.phase_core.proofs.edits.changed.Given as goal

abbrev pub invariant-loop-symbol : goal.invariant-loop-symbol
invariant-loop-symbol l = Picked (λ s. s) (λ s. seen_at l.old s ≢ seen_at l.new s) l.symbol-items l.symbol-index l.set
