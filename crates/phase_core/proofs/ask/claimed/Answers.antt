use Rattle.std.proofs.Common.{◌≡◌, ◌≤◌, sym, ◌∙◌, subst, length, arith, true, false}
use Rattle.std.specs.Prelude.{Contains}
use Rattle.std.specs.FinMap as finite
use Rattle.phase_core.proofs.Orders.{symbol_total, symbol_same}
use Rattle.phase_core.proofs.Asking.{claimed_is_there}
use Rattle.phase_core.proofs.Picked.{picked_none, picked_skip, picked_one, picked_exactly}
use Rattle.phase_core.specs.States.{is_claimed}
use Rattle.phase_core.proofs.ask.claimed.Goals as goal
use Rattle.phase_core.proofs.ask.claimed.Goals.{then-is_claimed_in+in_ok-insert, else-is_claimed_in}

pub loop-symbol-init : goal.loop-symbol-init
loop-symbol-init c = picked_none symbol_total symbol_same (λ s. s) _ _ _ c.new-set.ensures

pub loop-symbol-preserved : goal.loop-symbol-preserved
loop-symbol-preserved c =
    elim c.if-is_claimed_in.branch [
      | then-is_claimed_in+in_ok-insert w ↦
          picked_one symbol_total symbol_same (λ s. s) _ _ _ _ _ _ c.loop-symbol-test.true c.symbol-item.is c.loop-symbol.invariant (w.set-is ∙ w.in_ok-insert.ensures.ok) (sym c.is_claimed_in.ensures ∙ w.if-is_claimed_in.true)
      | else-is_claimed_in w ↦
          picked_skip symbol_total symbol_same (λ s. s) _ _ _ _ _ _ c.loop-symbol-test.true c.symbol-item.is c.loop-symbol.invariant w.set-is
          (λ p. let e : false ≡ true = sym w.if-is_claimed_in.false ∙ c.is_claimed_in.ensures ∙ p in cc)
    ]

pub returns : goal.returns
returns c =
    let l : length c.deref-symbol-items.result.now ≤ c.loop-symbol.symbol-index = omega arith in
    picked_exactly symbol_total symbol_same (λ s. is_claimed (finite.get c.args.records.now s) ≡ true) c.deref-symbol-items.result.now c.loop-symbol.symbol-index c.loop-symbol.set
    (λ s p. subst (λ xs. Contains xs s) (sym c.deref-symbol-items.ensures.value) ((c.in_ok-symbols.ensures s).1 (claimed_is_there _ p))) l c.loop-symbol.invariant
