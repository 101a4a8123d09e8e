use Rattle.phase_core.proofs.AtWork.{finish_by}
use Rattle.phase_core.proofs.phases.finish.Goals as goal

pub returns-in_ok-judge-in-Some : goal.returns-in_ok-judge-in-Some
returns-in_ok-judge-in-Some c = finish_by c.args.state.now c.args.worker _ _ _ c.in_ok-known-in-Some.known _ _ c.in-Some.ensures.some c.in_ok-known-in-Some.ensures c.in_ok-judge-in-Some.ensures c.set_worker.ensures
