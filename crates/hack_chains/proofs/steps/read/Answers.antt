use Rattle.std.proofs.Common.{refl}
use Rattle.hack_parts.specs.PartLaws.{value_walks}
use Rattle.hack_chains.proofs.Reaching.{value_reached}
use Rattle.hack_chains.proofs.steps.read.Goals as goal

pub returns : goal.returns
returns g c = value_reached (value_walks c.requires.value refl c.in_ok-ty.ensures)
