use Rattle.std.proofs.Common.{ap, ◌∙◌}
use Rattle.std.specs.FinSet as set
use Rattle.phase_core.proofs.Orders.{edge_total, edge_same}
use Rattle.phase_core.proofs.Maps.{insert_set}
use Rattle.phase_core.proofs.edge_set.EdgeSet.insert.Goals as goal

pub returns-clause-ok : goal.returns-clause-ok
returns-clause-ok c = insert_set edge_total edge_same _ _ _ c.in_ok-insert.ensures.updates ∙ ap (λ m. set.insert m c.args.edge) c.self.view_is
