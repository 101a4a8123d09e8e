use Rattle.std.proofs.Common.{Ok, refl}
use Rattle.hack_types.specs.declared.hack_type.HackType.TheVariants as type
use Rattle.hack_rules.specs.Chains.{not_row}
use Rattle.hack_rules.specs.Walks.{pure}
use Rattle.hack_walk.specs.WalkLaws.{walks_next, walks_pure}
use Rattle.hack_parts.specs.PartLaws.{value_walks}
use Rattle.hack_chains.proofs.Naming.{of_bool}
use Rattle.hack_chains.proofs.alone.not.Goals as goal

pub returns : goal.returns
unfolding not_row
returns g c =
    walks_next (pure type.Bool) (Ok type.Bool) (value_walks c.requires.operand refl c.in_ok-value.ensures)
    (walks_pure {Names = λ symbols. Unit {0}} _ _ type.Bool (λ symbols n. of_bool symbols)) (λ symbols n. n) (λ symbols n t. tt) (λ symbols b n t h. h)
