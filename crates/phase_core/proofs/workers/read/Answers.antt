use Rattle.phase_core.proofs.AtWork.{read_by}
use Rattle.phase_core.proofs.workers.read.Goals as goal

pub returns-in_ok-image-in-Some : goal.returns-in_ok-image-in-Some
returns-in_ok-image-in-Some c =
    read_by c.args.state.now c.args.worker c.args.symbol.now c.in-Some.image.now c.in_ok-image-in-Some.image c.learn.new.state c.learn.result (c.has_noted.ensures.0 c.if-not-has_noted.false) c.in-Some.ensures.some
    c.in_ok-image-in-Some.ensures c.learn.ensures
