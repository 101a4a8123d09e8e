use Rattle.phase_core.specs.Picked.{Picked}
use Rattle.phase_core.specs.InsideEdits.{StaysEdge}
use Rattle.phase_core.proofs.edits.edges_left.Given as goal

abbrev pub invariant-loop-edge : goal.invariant-loop-edge
invariant-loop-edge l = Picked (λ e. e) (StaysEdge l.world l.evicted l.refreshed) l.edge-items l.edge-index l.left
