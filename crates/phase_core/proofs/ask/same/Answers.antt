use Rattle.phase_core.proofs.Asking.{same_is}
use Rattle.phase_core.proofs.ask.same.Goals as goal

pub returns : goal.returns
returns c = same_is c.args.a c.args.b c.eq.result c.eq.ensures
