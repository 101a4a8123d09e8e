use Rattle.std.proofs.Common.{◌≡◌, true, false}
use Rattle.phase_core.specs.Picked.{Picked}
use Rattle.std.specs.FinSet as set
use Rattle.phase_core.proofs.edits.lookers.Given as goal

abbrev pub invariant-loop-edge : goal.invariant-loop-edge
invariant-loop-edge l = Picked (λ e. e.from) (λ e. (e.fold ≡ false) × (set.contains l.evicted e.to ≡ true)) l.edge-items l.edge-index l.set
