use Rattle.std.proofs.Common.{refl}
use Rattle.hack_parts.specs.PartLaws.{condition_walks}
use Rattle.hack_chains.proofs.Reaching.{branches_reached}
use Rattle.hack_chains.proofs.steps.test.Goals as goal

pub returns : goal.returns
returns g c = branches_reached (condition_walks c.requires.condition refl c.in_ok-branches.ensures)
