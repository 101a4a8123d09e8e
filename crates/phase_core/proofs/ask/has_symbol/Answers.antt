use Rattle.std.proofs.Common.{◌≡◌, ◌≤◌, refl, subst, length, arith, true, false}
use Rattle.std.specs.Prelude.{Contains}
use Rattle.phase_core.proofs.Lists.{in_at}
use Rattle.phase_core.proofs.Asking.{denied, none_yet, none_more, none_whole}
use Rattle.phase_core.proofs.ask.has_symbol.Goals as goal

pub loop-other-init : goal.loop-other-init
loop-other-init c = none_yet _ _

pub loop-other-preserved : goal.loop-other-preserved
loop-other-preserved c = none_more _ _ _ _ c.loop-other-test.true c.other-item.is (denied c.same.ensures c.if-same.false) c.loop-other.invariant

pub returns-then-same : goal.returns-then-same
returns-then-same c = (λ _. subst (Contains c.args.symbols.now) (c.same.ensures.0 c.if-same.true) (in_at c.args.symbols.now _ _ c.loop-other-test.true c.other-item.is), λ _. refl)

pub returns : goal.returns
returns c =
    let l : length c.args.symbols.now ≤ c.loop-other.other-index = omega arith in
    (λ h. absurd (let e : false ≡ true = h in cc), λ h. absurd (none_whole _ _ _ l c.loop-other.invariant c.args.symbol.now h refl))
