use Rattle.std.proofs.Common.{◌≡◌, ◌≤◌, refl, length, arith, true, false}
use Rattle.phase_core.proofs.Asking.{denied, none_yet, none_more, none_whole, works_at, at_works}
use Rattle.phase_core.specs.Phases.{IsCheckOf}
use Rattle.phase_core.proofs.ask.is_checked.Goals as goal

pub loop-worker-init : goal.loop-worker-init
loop-worker-init c = none_yet _ _

pub loop-worker-preserved : goal.loop-worker-preserved
loop-worker-preserved c = none_more _ _ _ _ c.loop-worker-test.true c.worker-item.is (denied c.checks.ensures c.if-checks.false) c.loop-worker.invariant

pub returns-then-checks : goal.returns-then-checks
returns-then-checks c = (λ _. at_works c.args.workers.now (IsCheckOf c.args.symbol.now) _ _ c.loop-worker-test.true c.worker-item.is (c.checks.ensures.0 c.if-checks.true), λ _. refl)

pub returns : goal.returns
returns c =
    let l : length c.args.workers.now ≤ c.loop-worker.worker-index = omega arith in
    (λ h. absurd (let e : false ≡ true = h in cc), λ h. let w = works_at c.args.workers.now (IsCheckOf c.args.symbol.now) h in absurd (none_whole _ _ _ l c.loop-worker.invariant w.0 w.1 w.2))
