use Rattle.std.proofs.Common.{Ok}
use Rattle.hack_rules.specs.Meanings.{property}
use Rattle.hack_rules.specs.Members.{instance_alone, member_of, property_of}
use Rattle.hack_rules.specs.Walks.{◌>>=◌, pure}
use Rattle.hack_targets.specs.AimIn.{AimIn}
use Rattle.hack_walk.specs.WalkLaws.{step_pure, walks_on, walks_step}
use Rattle.hack_uses.specs.inside.Steps.{property_step}
use Rattle.hack_uses.proofs.suffixes.property.Goals as goal

pub returns : goal.returns
unfolding property_step
returns g c =
    let at = c.args.at in let wanted = property_of instance_alone c.args.null_safe c.args.name in let whole = property c.in_ok-ty.ty in
    rw c.property.ensures (walks_on (λ base. member_of at wanted base >>= (λ found. pure (property found))) (Ok whole) c.in_ok-base.ensures
    (walks_step (λ found. pure (property found)) c.in_ok-ty.ensures (step_pure {Gives = AimIn} _ whole (λ symbols n. n.1)) (λ symbols n. (n.1, tt)) (λ symbols b n g h. h))
    (λ symbols n. n))
