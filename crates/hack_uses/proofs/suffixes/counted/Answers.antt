use Rattle.std.proofs.Common.{Ok}
use Rattle.hack_rules.specs.Meanings.{other}
use Rattle.hack_rules.specs.Walks.{pure}
use Rattle.hack_targets.specs.AimIn.{AimIn}
use Rattle.hack_walk.specs.WalkLaws.{step_pure, walks_step}
use Rattle.hack_uses.specs.inside.Steps.{increment_step}
use Rattle.hack_uses.proofs.suffixes.counted.Goals as goal

pub returns : goal.returns
unfolding increment_step
returns g c =
    let at = c.args.at in let whole = other at c.in_ok-ty.ty in
    rw c.other.ensures (walks_step (λ ty. pure (other at ty)) c.in_ok-ty.ensures (step_pure {Gives = AimIn} _ whole (λ symbols n. n.1)) (λ symbols n. n) (λ symbols b n g h. h))
