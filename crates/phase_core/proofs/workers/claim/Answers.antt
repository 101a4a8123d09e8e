use Rattle.std.proofs.Common.{ap}
use Rattle.phase_core.proofs.workers.claim.Goals as goal

pub returns : goal.returns
returns c = (c.may_claim.ensures.0 c.if-not-may_claim.false, ap (λ rs. record c.args.state.now { records = rs }) c.in_ok-insert.ensures.ok)
