use Rattle.std.proofs.Common.{◌≡◌, ◌↔◌, ◌≤◌, sym, ◌∙◌, subst, length, arith, true, false}
use Rattle.std.specs.Prelude.{Contains}
use Rattle.std.specs.FinSet as set
use Rattle.phase_core.proofs.Orders.{edge_total, edge_same}
use Rattle.phase_core.proofs.Picked.{picked_none, picked_skip, picked_one, picked_whole}
use Rattle.phase_core.specs.InsideEdits.{turn}
use Rattle.phase_core.specs.Edges.{fold_edge}
use Rattle.phase_core.specs.declared.edge.CoreEdge.{CoreEdge}
use Rattle.phase_core.proofs.Edited.{turned_is}
use Rattle.phase_core.proofs.edits.turned.Goals as goal
use Rattle.phase_core.proofs.edits.turned.Goals.{then-edge+in_ok-insert, else-edge}

pub loop-edge-init : goal.loop-edge-init
loop-edge-init c = picked_none edge_total edge_same turn _ _ _ c.new-back.ensures

pub loop-edge-preserved : goal.loop-edge-preserved
loop-edge-preserved c =
    elim c.if-edge.branch [
      | then-edge+in_ok-insert w ↦
          picked_one edge_total edge_same turn _ _ _ _ _ _ c.loop-edge-test.true c.edge-item.is c.loop-edge.invariant (w.back-is ∙ w.in_ok-insert.ensures.ok)
          w.if-edge.true
      | else-edge w ↦
          picked_skip edge_total edge_same turn _ _ _ _ _ _ c.loop-edge-test.true c.edge-item.is c.loop-edge.invariant w.back-is
          (λ p. let e : false ≡ true = sym w.if-edge.false ∙ p in cc)
    ]

pub returns : goal.returns
returns c =
    let l : length c.deref-edge-items.result.now ≤ c.loop-edge.edge-index = omega arith in
    λ s t.
    let whole = picked_whole edge_total edge_same turn (λ (e : CoreEdge). e.fold ≡ true) c.deref-edge-items.result.now c.loop-edge.edge-index c.loop-edge.back l c.loop-edge.invariant (fold_edge s t) in
    turned_is c.args.edges.now c.deref-edge-items.result.now (λ e. subst (λ xs. Contains xs e ↔ (set.contains c.args.edges.now e ≡ true)) (sym c.deref-edge-items.ensures.value) (c.in_ok-list.ensures e)) c.loop-edge.back s t whole
