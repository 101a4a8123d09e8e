use Rattle.std.proofs.Common.{None, Ok}
use Rattle.hack_rules.specs.Meanings.{element as element_aim}
use Rattle.hack_rules.specs.Walks.{pure}
use Rattle.hack_targets.specs.AimIn.{AimIn}
use Rattle.hack_walk.specs.Checks.{setting_of}
use Rattle.hack_walk.specs.WalkLaws.{step_pure, walks_as, walks_step}
use Rattle.hack_uses.specs.inside.Steps.{index_step}
use Rattle.hack_uses.proofs.Stepping.{last_step}
use Rattle.hack_uses.proofs.suffixes.last_element.Goals as goal

pub returns : goal.returns
returns g c =
    let at = c.args.at in let aim = c.args.target in let ty = c.in_ok-ty.ty in
    rw c.in_ok-element.ensures (walks_as (index_step at None aim) (Ok (element_aim at aim ty None))
    (walks_step (λ t. pure (element_aim at aim t None)) c.in_ok-ty.ensures (step_pure {Gives = AimIn} _ (element_aim at aim ty None) (λ symbols n. (n.0, n.1, tt))) (λ symbols n. n) (λ symbols b n g h. h))
    (λ m. last_step at aim (setting_of c.args.setting.now) m c.args.state.now))
