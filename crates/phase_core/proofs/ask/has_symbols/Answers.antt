use Rattle.std.proofs.Common.{◌≡◌, ◌≤◌, refl, length, arith, true, false}
use Rattle.phase_core.proofs.Lists.{in_at}
use Rattle.phase_core.proofs.Asking.{denied, all_yet, all_more, all_whole}
use Rattle.phase_core.proofs.ask.has_symbols.Goals as goal

pub loop-symbol-init : goal.loop-symbol-init
loop-symbol-init c = all_yet _ _

pub loop-symbol-preserved : goal.loop-symbol-preserved
loop-symbol-preserved c = all_more _ _ _ _ c.loop-symbol-test.true c.symbol-item.is (c.has_symbol.ensures.0 c.if-not-has_symbol.false) c.loop-symbol.invariant

pub returns-then-not-has_symbol : goal.returns-then-not-has_symbol
returns-then-not-has_symbol c =
    (λ h. absurd (let e : false ≡ true = h in cc), λ all. absurd (denied c.has_symbol.ensures c.if-not-has_symbol.true (all _ (in_at c.args.these.now _ _ c.loop-symbol-test.true c.symbol-item.is))))

pub returns : goal.returns
returns c =
    let l : length c.args.these.now ≤ c.loop-symbol.symbol-index = omega arith in
    (λ _. all_whole _ _ _ l c.loop-symbol.invariant, λ _. refl)
