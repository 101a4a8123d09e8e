use Rattle.hack_operators.proofs.Orders.{same_order}
use Rattle.hack_operators.proofs.laws.either_order.Goals as goal

pub returns : goal.returns
returns c = same_order
