use Rattle.hack_chains.proofs.Reaching.{branches_reached}
use Rattle.hack_chains.proofs.steps.branches_so_far.Goals as goal

pub returns : goal.returns
returns g c = branches_reached c.in_ok-branches.ensures
