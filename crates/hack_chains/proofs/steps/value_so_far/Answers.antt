use Rattle.hack_chains.proofs.Reaching.{value_reached}
use Rattle.hack_chains.proofs.steps.value_so_far.Goals as goal

pub returns : goal.returns
returns g c = value_reached c.in_ok-ty.ensures
