use Rattle.phase_core.proofs.AtWork.{note_fold}
use Rattle.phase_core.proofs.workers.may_note.Goals as goal

pub returns-then-edge : goal.returns-then-edge
returns-then-edge c = note_fold c.args.state.now c.args.worker c.args.edge.now c.is_inner_fold.result c.in-Some.ensures.some c.if-edge.true c.is_inner_fold.ensures
