use Rattle.std.proofs.Common.{sym, ◌∙◌, subst, ◌≤◌, ◌↔◌, arith, length}
use Rattle.std.specs.FinMap as finite
use Rattle.std.specs.Prelude.{Contains, IsSome}
use Rattle.phase_core.specs.Inside.{CopiedSoFar}
use Rattle.phase_core.proofs.Copies.{copied_init, copied_skip, copied_put, copied_whole}
use Rattle.phase_core.proofs.symbol_map.SymbolMap.without.Goals as goal
use Rattle.phase_core.proofs.symbol_map.SymbolMap.without.Goals.{then-not-contains+in_ok-copy_to, else-not-contains}

pub loop-symbol-init : goal.loop-symbol-init
loop-symbol-init g c = subst (CopiedSoFar _ _ _ 0) (sym c.new-rest.ensures) (copied_init _ _ _)

pub loop-symbol-preserved : goal.loop-symbol-preserved
loop-symbol-preserved g c =
    elim c.if-not-contains.branch [
      | then-not-contains+in_ok-copy_to w ↦ subst (CopiedSoFar _ _ _ _) (sym (w.rest-is ∙ w.in_ok-copy_to.ensures)) (copied_put _ _ _ _ _ _ c.loop-symbol-test.true c.symbol-item.is c.loop-symbol.invariant (sym c.contains.ensures ∙ w.if-not-contains.true))
      | else-not-contains w ↦ subst (CopiedSoFar _ _ _ _) (sym w.rest-is) (copied_skip _ _ _ _ _ _ c.loop-symbol-test.true c.symbol-item.is c.loop-symbol.invariant (sym c.contains.ensures ∙ w.if-not-contains.false))
    ]

pub returns : goal.returns
returns g c =
    let end : length c.deref-symbol-items.result.now ≤ c.loop-symbol.symbol-index = omega arith in
    copied_whole _ _ c.deref-symbol-items.result.now _ _ end (λ s. subst (λ xs. Contains xs s ↔ IsSome (finite.get c.args.self.now s)) (sym c.deref-symbol-items.ensures.value) (c.in_ok-symbols.ensures s)) c.loop-symbol.invariant
