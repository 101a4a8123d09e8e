use Rattle.std.proofs.Common.{◌≡◌, ◌⊎◌, ◌↔◌, ◌≤◌, sym, ◌∙◌, subst, length, arith, true}
use Rattle.std.specs.Prelude.{Contains}
use Rattle.std.specs.FinSet as set
use Rattle.phase_core.proofs.Orders.{symbol_total, symbol_same}
use Rattle.phase_core.proofs.Asking.{denied}
use Rattle.phase_core.proofs.Picked.{picked_none, picked_skip, picked_one, picked_among}
use Rattle.phase_core.specs.World.{IsDeclared}
use Rattle.phase_core.proofs.edits.stale_left.Goals as goal
use Rattle.phase_core.proofs.edits.stale_left.Goals.{then-is_in_one+in_ok-insert, else-is_in_one}

pub loop-symbol-init : goal.loop-symbol-init
loop-symbol-init c = picked_none symbol_total symbol_same (λ z. z) _ _ _ c.new-set.ensures

pub loop-symbol-preserved : goal.loop-symbol-preserved
loop-symbol-preserved c =
    elim c.if-is_in_one.branch [
      | then-is_in_one+in_ok-insert w ↦
          picked_one symbol_total symbol_same (λ z. z) _ _ _ _ _ _ c.loop-symbol-test.true c.symbol-item.is c.loop-symbol.invariant (w.set-is ∙ w.in_ok-insert.ensures.ok)
          (c.is_in_one.ensures.0 w.if-is_in_one.true)
      | else-is_in_one w ↦
          picked_skip symbol_total symbol_same (λ z. z) _ _ _ _ _ _ c.loop-symbol-test.true c.symbol-item.is c.loop-symbol.invariant w.set-is
          (denied c.is_in_one.ensures w.if-is_in_one.false)
    ]

pub returns : goal.returns
returns c =
    let l : length c.deref-symbol-items.result.now ≤ c.loop-symbol.symbol-index = omega arith in
    picked_among symbol_total symbol_same (λ s. (set.contains c.args.stale.now s ≡ true) ⊎ (set.contains c.args.refreshed.now s ≡ true)) (IsDeclared c.args.world.now) c.deref-symbol-items.result.now c.loop-symbol.symbol-index
    c.loop-symbol.set (λ s. subst (λ xs. Contains xs s ↔ IsDeclared c.args.world.now s) (sym c.deref-symbol-items.ensures.value) (c.in_ok-symbols.ensures s)) l c.loop-symbol.invariant
