use Rattle.std.proofs.Common.{◌≡◌, ◌≤◌, refl, sym, subst, length, arith, true, false}
use Rattle.std.specs.Prelude.{Contains}
use Rattle.phase_core.proofs.Asking.{denied, all_yet, all_more, all_whole, parents_everywhere}
use Rattle.phase_core.proofs.ask.parents_are_mentioned.Goals as goal

pub loop-symbol-init : goal.loop-symbol-init
loop-symbol-init c = all_yet _ _

pub loop-symbol-preserved : goal.loop-symbol-preserved
loop-symbol-preserved c = all_more _ _ _ _ c.loop-symbol-test.true c.symbol-item.is (c.mentions_parents.ensures.0 c.if-not-mentions_parents.false) c.loop-symbol.invariant

pub returns-then-not-mentions_parents : goal.returns-then-not-mentions_parents
returns-then-not-mentions_parents c =
    (λ h. absurd (let e : false ≡ true = h in cc), λ all. absurd (denied c.mentions_parents.ensures c.if-not-mentions_parents.true (all _)))

pub returns : goal.returns
returns c =
    let l : length c.deref-symbol-items.result.now ≤ c.loop-symbol.symbol-index = omega arith in
    (λ _. parents_everywhere c.args.world.now (λ s there. all_whole _ _ _ l c.loop-symbol.invariant s (subst (λ xs. Contains xs s) (sym c.deref-symbol-items.ensures.value) ((c.in_ok-symbols.ensures s).1 there))), λ _. refl)
