use Rattle.std.proofs.Common.{◌≡◌, true}
use Rattle.phase_core.specs.Picked.{Picked}
use Rattle.phase_core.specs.InsideEdits.{turn}
use Rattle.phase_core.proofs.edits.turned.Given as goal

abbrev pub invariant-loop-edge : goal.invariant-loop-edge
invariant-loop-edge l = Picked turn (λ e. e.fold ≡ true) l.edge-items l.edge-index l.back
