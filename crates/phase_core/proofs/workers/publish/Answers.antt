use Rattle.std.proofs.Common.{ap}
use Rattle.phase_core.proofs.workers.publish.Goals as goal

pub returns : goal.returns
returns c = (
  c.in_ok-may_publish.ensures.0 c.if-not-branch.false,
  (c.in_ok-image.image, c.in_ok-image.ensures, ap (λ rs. record c.args.state.now { records = rs }) c.in_ok-insert.ensures.ok),
)
