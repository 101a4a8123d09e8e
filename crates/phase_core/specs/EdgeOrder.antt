-- The order of edges: check edges before fold edges, then by where they lead from, then by where they lead.
use Rattle.std.specs.Ordering.{bool_cmp, ordering_then}
use Rattle.std.specs.declared.cmp.Ordering.{Ordering}
use Rattle.phase_core.specs.Orders.{symbol_order}
use Rattle.phase_core.specs.declared.edge.CoreEdge.{CoreEdge}

abbrev pub edge_order : CoreEdge → CoreEdge → Ordering
edge_order a b = ordering_then (bool_cmp a.fold b.fold) (ordering_then (symbol_order a.from b.from) (symbol_order a.to b.to))
