use Rattle.phase_core.specs.Edges.{IsCovered}
use Rattle.phase_core.proofs.Asking.{denied}
use Rattle.phase_core.proofs.Deciding.{behind_one, not_first}
use Rattle.phase_core.proofs.workers.may_fold.Goals as goal

pub returns-then-has_noted : goal.returns-then-has_noted
returns-then-has_noted c = behind_one c.is_covered.result (IsCovered c.args.state.now.world c.args.state.now.edges c.args.symbol.now) (c.has_noted.ensures.0 c.if-has_noted.true) c.is_covered.ensures

pub returns-else-has_noted : goal.returns-else-has_noted
returns-else-has_noted c = not_first (IsCovered c.args.state.now.world c.args.state.now.edges c.args.symbol.now) (denied c.has_noted.ensures c.if-has_noted.false)
