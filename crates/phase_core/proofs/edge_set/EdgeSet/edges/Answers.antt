use Rattle.std.proofs.Common.{subst, ◌↔◌}
use Rattle.std.specs.Prelude.{IsTrue, Contains}
use Rattle.std.specs.FinSet as set
use Rattle.phase_core.proofs.Orders.{edge_total, edge_same}
use Rattle.phase_core.proofs.Maps.{keys_set}
use Rattle.phase_core.proofs.edge_set.EdgeSet.edges.Goals as goal

pub returns : goal.returns
returns c = λ e. subst (λ m. Contains c.in_ok-keys_of.field-0.items e ↔ IsTrue (set.contains m e)) c.self.view_is (keys_set edge_total edge_same c.self.inside.edges _ c.in_ok-keys_of.ensures e)
