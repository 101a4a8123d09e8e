use Rattle.std.proofs.Common.{◌≡◌, ◌≢◌, ◌≤◌, inl, inr, sym, ap, ◌∙◌, subst, length, arith, ◌++◌}
use Rattle.std.specs.Prelude.{Contains}
use Rattle.std.proofs.lemmas.List.Elements.{Contains-append_left, Contains-append_right}
use Rattle.phase_core.proofs.Orders.{symbol_total, symbol_same}
use Rattle.phase_core.proofs.Asking.{denied}
use Rattle.phase_core.proofs.Picked.{picked_none, picked_skip, picked_one, picked_exactly}
use Rattle.phase_core.specs.World.{seen_at}
use Rattle.phase_core.proofs.Edited.{changed_is_there}
use Rattle.phase_core.proofs.edits.changed.Goals as goal
use Rattle.phase_core.proofs.edits.changed.Goals.{then-not-is_seen_alike+in_ok-insert, else-not-is_seen_alike}

pub loop-symbol-init : goal.loop-symbol-init
loop-symbol-init c = picked_none symbol_total symbol_same (λ z. z) _ _ _ c.new-set.ensures

pub loop-symbol-preserved : goal.loop-symbol-preserved
loop-symbol-preserved c =
    elim c.if-not-is_seen_alike.branch [
      | then-not-is_seen_alike+in_ok-insert w ↦
          picked_one symbol_total symbol_same (λ z. z) _ _ _ _ _ _ c.loop-symbol-test.true c.symbol-item.is c.loop-symbol.invariant (w.set-is ∙ w.in_ok-insert.ensures.ok)
          (denied c.is_seen_alike.ensures w.if-not-is_seen_alike.true)
      | else-not-is_seen_alike w ↦
          picked_skip symbol_total symbol_same (λ z. z) _ _ _ _ _ _ c.loop-symbol-test.true c.symbol-item.is c.loop-symbol.invariant w.set-is
          (λ differs. differs (c.is_seen_alike.ensures.0 w.if-not-is_seen_alike.false))
    ]

pub returns : goal.returns
returns c =
    let l : length c.deref-symbol-items.result.now ≤ c.loop-symbol.symbol-index = omega arith in
    let xs = c.in_ok-symbols.symbols.items in
    let ys = c.in_ok-symbols-2.field-0.items in
    let whole : c.deref-symbol-items.result.now ≡ xs ++ ys = c.deref-symbol-items.ensures.value ∙ c.in_ok-extend_from_slice.ensures.items ∙ ap (λ zs. xs ++ zs) c.deref.ensures.value in
    picked_exactly symbol_total symbol_same (λ s. seen_at c.args.old.now s ≢ seen_at c.args.new.now s) c.deref-symbol-items.result.now c.loop-symbol.symbol-index c.loop-symbol.set
    (λ s differs.
    subst (λ zs. Contains zs s) (sym whole)
    (elim (changed_is_there c.args.old.now c.args.new.now s differs) [
      | inl h ↦ Contains-append_left xs ys s ((c.in_ok-symbols.ensures s).1 h)
      | inr h ↦ Contains-append_right xs ys s ((c.in_ok-symbols-2.ensures s).1 h)
    ]))
    l c.loop-symbol.invariant
