use Rattle.std.proofs.Common.{sym, ap, ◌∙◌}
use Rattle.std.specs.FinSet as set
use Rattle.phase_core.proofs.Orders.{edge_total, edge_same}
use Rattle.phase_core.proofs.Maps.{contains_tree}
use Rattle.phase_core.proofs.edge_set.EdgeSet.contains.Goals as goal

pub returns : goal.returns
returns c = c.contains.ensures ∙ sym (contains_tree edge_total edge_same c.self.inside.edges c.args.edge) ∙ ap (λ m. set.contains m c.args.edge) c.self.view_is
