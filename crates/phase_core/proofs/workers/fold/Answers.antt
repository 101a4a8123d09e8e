use Rattle.phase_core.proofs.AtWork.{fold_by}
use Rattle.phase_core.proofs.workers.fold.Goals as goal

pub returns : goal.returns
returns c =
    fold_by c.args.state.now c.args.worker c.args.symbol.now c.in_ok-image.image c.learn.new.state c.learn.result (c.in_ok-may_fold.ensures.0 c.if-not-branch.false) c.in_ok-image.ensures c.learn.ensures
