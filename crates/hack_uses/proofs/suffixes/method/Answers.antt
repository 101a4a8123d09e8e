use Rattle.std.proofs.Common.{Ok, map}
use Rattle.hack_rules.specs.Expressions.{meaning_of}
use Rattle.hack_rules.specs.Meanings.{other}
use Rattle.hack_rules.specs.Walks.{◌>>=◌, pure}
use Rattle.hack_targets.specs.AimIn.{AimIn}
use Rattle.hack_walk.specs.WalkLaws.{step_pure, walks_on, walks_step}
use Rattle.hack_uses.specs.inside.Steps.{method_called, method_step}
use Rattle.hack_uses.proofs.suffixes.method.Goals as goal

pub returns : goal.returns
unfolding method_step
returns g c =
    let at = c.args.at in let whole = other at c.in_ok-ty.ty in
    rw c.other.ensures (walks_on (λ base. method_called at c.args.null_safe c.args.name (map meaning_of c.args.arguments.now) base >>= (λ found. pure (other at found))) (Ok whole) c.in_ok-base.ensures
    (walks_step (λ found. pure (other at found)) c.in_ok-ty.ensures (step_pure {Gives = AimIn} _ whole (λ symbols n. n.1)) (λ symbols n. (n.1, n.0.1)) (λ symbols b n g h. h))
    (λ symbols n. n.0))
