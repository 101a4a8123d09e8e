-- The edges that workers note.
use Rattle.std.specs.Prelude.{◌≡◌, true, false}
use Rattle.std.specs.FinSet.{FinSet, contains}
use Rattle.hack_types.specs.declared.ids.SymbolId.{SymbolId}
use Rattle.phase_core.specs.declared.edge.CoreEdge.{CoreEdge}
use Rattle.phase_core.specs.EdgeOrder.{edge_order}
use Rattle.phase_core.specs.World.{World}
use Rattle.phase_core.specs.Closures.{Reaches, InClosure}

abbrev pub Edges : Type 0
Edges = FinSet edge_order

abbrev pub fold_edge : SymbolId → SymbolId → CoreEdge
fold_edge from to = record { fold = true; from = from; to = to }

abbrev pub check_edge : SymbolId → SymbolId → CoreEdge
check_edge from to = record { fold = false; from = from; to = to }

-- a fold edge is there
abbrev pub HasFold : Edges → SymbolId → SymbolId → Type 0
HasFold edges from to = contains edges (fold_edge from to) ≡ true

-- a check edge is there
abbrev pub HasCheck : Edges → SymbolId → SymbolId → Type 0
HasCheck edges from to = contains edges (check_edge from to) ≡ true

-- each symbol of the closure of s is reached from s over fold edges
abbrev pub IsCovered : World → Edges → SymbolId → Type 0
IsCovered world edges s = (t : SymbolId) → InClosure world s t → Reaches (HasFold edges) s t
