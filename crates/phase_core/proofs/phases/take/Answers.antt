use Rattle.phase_core.proofs.AtWork.{take_by}
use Rattle.phase_core.proofs.phases.take.Goals as goal

pub returns : goal.returns
returns c = (c.may_take.ensures.0 c.if-not-may_take.false, take_by c.args.state.now c.args.worker c.args.symbol.now c.args.check _ _ c.new-known.ensures c.set_worker.ensures)
