use Rattle.check_state.proofs.Said.{taken_said}
use Rattle.check_state.proofs.texts.taken.Goals as goal

pub returns : goal.returns
returns c = taken_said c.args.names.now c.args.unit.now.head.name_at c.name_taken.result c.args.unit.now.head.symbol.name c.name_taken.ensures
