use Rattle.phase_core.proofs.Asking.{lists_same}
use Rattle.phase_core.proofs.ask.has_same.Goals as goal

pub returns : goal.returns
returns c = lists_same c.args.a.now c.args.b.now c.eq.result c.eq.ensures
