use Rattle.hack_operators.proofs.Orders.{silent_left, silent_right}
use Rattle.hack_operators.proofs.laws.error_is_silent.Goals as goal

pub returns-clause-left : goal.returns-clause-left
returns-clause-left c = silent_left

pub returns-clause-right : goal.returns-clause-right
returns-clause-right c = silent_right
