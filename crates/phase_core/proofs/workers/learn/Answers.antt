use Rattle.phase_core.proofs.AtWork.{learn_by}
use Rattle.phase_core.proofs.workers.learn.Goals as goal

pub returns-in_ok-known-in-Some : goal.returns-in_ok-known-in-Some
returns-in_ok-known-in-Some c = learn_by c.args.state.now c.args.worker _ _ _ c.in_ok-known-in-Some.known c.args.symbol c.args.image _ c.in-Some.ensures.some c.in_ok-known-in-Some.ensures c.set_worker.ensures
