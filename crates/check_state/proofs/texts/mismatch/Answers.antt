use Rattle.check_state.proofs.Said.{mismatch_said}
use Rattle.check_state.proofs.texts.mismatch.Goals as goal

pub returns : goal.returns
returns c = mismatch_said c.args.names.now c.args.unit.now.at c.expected-diag.result c.args.unit.now.result c.args.found _ _ c.type_of-wanted.ensures c.type_of-found.ensures c.expected-diag.ensures
