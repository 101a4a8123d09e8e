use Rattle.std.proofs.Common.{◌≡◌, ◌↔◌, ◌≤◌, sym, ◌∙◌, subst, length, arith, true, false}
use Rattle.std.specs.Prelude.{Contains}
use Rattle.std.specs.FinSet as set
use Rattle.phase_core.proofs.Orders.{symbol_total, symbol_same}
use Rattle.phase_core.proofs.Asking.{denied}
use Rattle.phase_core.proofs.Picked.{picked_none, picked_skip, picked_one, picked_whole}
use Rattle.phase_core.specs.declared.edge.CoreEdge.{CoreEdge}
use Rattle.phase_core.proofs.Edited.{looks_is}
use Rattle.phase_core.proofs.edits.lookers.Goals as goal
use Rattle.phase_core.proofs.edits.lookers.Goals.{then-looks_into+in_ok-insert, else-looks_into}

pub loop-edge-init : goal.loop-edge-init
loop-edge-init c = picked_none symbol_total symbol_same (λ (e : CoreEdge). e.from) _ _ _ c.new-set.ensures

pub loop-edge-preserved : goal.loop-edge-preserved
loop-edge-preserved c =
    elim c.if-looks_into.branch [
      | then-looks_into+in_ok-insert w ↦
          picked_one symbol_total symbol_same (λ (e : CoreEdge). e.from) _ _ _ _ _ _ c.loop-edge-test.true c.edge-item.is c.loop-edge.invariant (w.set-is ∙ w.in_ok-insert.ensures.ok)
          (c.looks_into.ensures.0 w.if-looks_into.true)
      | else-looks_into w ↦
          picked_skip symbol_total symbol_same (λ (e : CoreEdge). e.from) _ _ _ _ _ _ c.loop-edge-test.true c.edge-item.is c.loop-edge.invariant w.set-is
          (denied c.looks_into.ensures w.if-looks_into.false)
    ]

pub returns : goal.returns
returns c =
    let l : length c.deref-edge-items.result.now ≤ c.loop-edge.edge-index = omega arith in
    λ u.
    looks_is c.args.edges.now c.args.evicted.now c.deref-edge-items.result.now c.loop-edge.set u
    (λ s. subst (λ xs. Contains xs s ↔ (set.contains c.args.edges.now s ≡ true)) (sym c.deref-edge-items.ensures.value) (c.in_ok-list.ensures s))
    (picked_whole symbol_total symbol_same (λ (e : CoreEdge). e.from) (λ (e : CoreEdge). (e.fold ≡ false) × (set.contains c.args.evicted.now e.to ≡ true)) c.deref-edge-items.result.now c.loop-edge.edge-index c.loop-edge.set l
    c.loop-edge.invariant u)
