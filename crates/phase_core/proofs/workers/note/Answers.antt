use Rattle.std.proofs.Common.{ap}
use Rattle.phase_core.proofs.workers.note.Goals as goal

pub returns : goal.returns
returns c = (c.in_ok-may_note.ensures.0 c.if-not-branch.false, ap (λ es. record c.args.state.now { edges = es }) c.in_ok-insert.ensures.ok)
