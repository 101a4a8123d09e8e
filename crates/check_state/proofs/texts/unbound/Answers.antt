use Rattle.check_state.proofs.Said.{unbound_said}
use Rattle.check_state.proofs.texts.unbound.Goals as goal

pub returns : goal.returns
returns c = unbound_said c.args.names.now c.args.unit.now.at c.unbound_function.result c.args.name c.unbound_function.ensures
