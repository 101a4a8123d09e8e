use Rattle.std.proofs.Common.{◌≡◌, ◌↔◌, ◌≤◌, refl, sym, ◌∙◌, subst, length, arith, true}
use Rattle.std.specs.Prelude.{Contains}
use Rattle.std.specs.FinSet as set
use Rattle.phase_core.proofs.Orders.{edge_total, edge_same}
use Rattle.phase_core.proofs.Asking.{denied}
use Rattle.phase_core.proofs.Picked.{picked_none, picked_skip, picked_one, picked_whole}
use Rattle.phase_core.specs.InsideEdits.{StaysEdge}
use Rattle.phase_core.proofs.edits.edges_left.Goals as goal
use Rattle.phase_core.proofs.edits.edges_left.Goals.{then-stays+in_ok-insert, else-stays}

pub loop-edge-init : goal.loop-edge-init
loop-edge-init c = picked_none edge_total edge_same (λ z. z) _ _ _ c.new-left.ensures

pub loop-edge-preserved : goal.loop-edge-preserved
loop-edge-preserved c =
    elim c.if-stays.branch [
      | then-stays+in_ok-insert w ↦
          picked_one edge_total edge_same (λ z. z) _ _ _ _ _ _ c.loop-edge-test.true c.edge-item.is c.loop-edge.invariant (w.left-is ∙ w.in_ok-insert.ensures.ok)
          (c.stays.ensures.0 w.if-stays.true)
      | else-stays w ↦
          picked_skip edge_total edge_same (λ z. z) _ _ _ _ _ _ c.loop-edge-test.true c.edge-item.is c.loop-edge.invariant w.left-is
          (denied c.stays.ensures w.if-stays.false)
    ]

pub returns : goal.returns
returns c =
    let l : length c.deref-edge-items.result.now ≤ c.loop-edge.edge-index = omega arith in
    λ e.
    let whole = picked_whole edge_total edge_same (λ z. z) (StaysEdge c.args.world.now c.args.evicted.now c.args.refreshed.now) c.deref-edge-items.result.now c.loop-edge.edge-index c.loop-edge.left l c.loop-edge.invariant e in
    let there = subst (λ xs. Contains xs e ↔ (set.contains c.args.edges.now e ≡ true)) (sym c.deref-edge-items.ensures.value) (c.in_ok-list.ensures e) in (
      λ h.
          let r = whole.0 h in
          (there.0 (subst (Contains c.deref-edge-items.result.now) r.3 r.1), subst (StaysEdge c.args.world.now c.args.evicted.now c.args.refreshed.now) r.3 r.2),
      λ h. whole.1 (e, there.1 h.0, h.1, refl),
    )
