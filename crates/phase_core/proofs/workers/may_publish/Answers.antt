use Rattle.phase_core.specs.Edges.{IsCovered}
use Rattle.phase_core.proofs.Asking.{denied}
use Rattle.phase_core.proofs.Deciding.{behind_one, not_first}
use Rattle.phase_core.proofs.workers.may_publish.Goals as goal

pub returns-then-is_claim : goal.returns-then-is_claim
returns-then-is_claim c = behind_one c.is_covered.result (IsCovered c.args.state.now.world c.args.state.now.edges c.args.symbol.now) (c.is_claim.ensures.0 c.if-is_claim.true) c.is_covered.ensures

pub returns-else-is_claim : goal.returns-else-is_claim
returns-else-is_claim c = not_first (IsCovered c.args.state.now.world c.args.state.now.edges c.args.symbol.now) (denied c.is_claim.ensures c.if-is_claim.false)
