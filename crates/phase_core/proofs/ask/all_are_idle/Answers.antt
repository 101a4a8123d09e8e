use Rattle.std.proofs.Common.{◌≡◌, ◌≤◌, refl, length, arith, true, false}
use Rattle.phase_core.proofs.Lists.{in_at}
use Rattle.phase_core.proofs.Asking.{denied, all_yet, all_more, all_whole, all_by_number, all_by_member}
use Rattle.phase_core.specs.declared.state.CoreWorker.TheVariants.{Idle}
use Rattle.phase_core.proofs.ask.all_are_idle.Goals as goal

pub loop-worker-init : goal.loop-worker-init
loop-worker-init c = all_yet _ _

pub loop-worker-preserved : goal.loop-worker-preserved
loop-worker-preserved c = all_more _ _ _ _ c.loop-worker-test.true c.worker-item.is (c.is_idle.ensures.0 c.if-not-is_idle.false) c.loop-worker.invariant

pub returns-then-not-is_idle : goal.returns-then-not-is_idle
returns-then-not-is_idle c =
    (λ h. absurd (let e : false ≡ true = h in cc), λ all. absurd (denied c.is_idle.ensures c.if-not-is_idle.true (all_by_member (λ w. w ≡ Idle) c.args.workers.now all _ (in_at c.args.workers.now _ _ c.loop-worker-test.true c.worker-item.is))))

pub returns : goal.returns
returns c =
    let l : length c.args.workers.now ≤ c.loop-worker.worker-index = omega arith in
    (λ _. all_by_number (λ w. w ≡ Idle) c.args.workers.now (all_whole _ _ _ l c.loop-worker.invariant), λ _. refl)
