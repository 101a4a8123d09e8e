use Rattle.std.proofs.Common.{Some, Ok}
use Rattle.hack_rules.specs.Expressions.{meaning_of}
use Rattle.hack_rules.specs.Meanings.{element as element_aim}
use Rattle.hack_rules.specs.Walks.{◌>>=◌, pure}
use Rattle.hack_targets.specs.AimIn.{AimIn}
use Rattle.hack_walk.specs.Checks.{setting_of}
use Rattle.hack_walk.specs.WalkLaws.{step_pure, walks_as, walks_on, walks_step}
use Rattle.hack_uses.specs.inside.Steps.{index_step, typed_index}
use Rattle.hack_uses.proofs.Stepping.{element_step}
use Rattle.hack_uses.proofs.suffixes.element.Goals as goal

pub returns : goal.returns
returns g c =
    let at = c.args.at in let aim = c.args.target in let ty = c.in_ok-ty.ty in let index = meaning_of c.args.index.now in let whole = element_aim at aim ty (Some c.in_ok-typed.typed) in
    rw c.in_ok-element.ensures (walks_as (index_step at (Some index) aim) (Ok whole)
    (walks_on (λ t. typed_index index >>= (λ i. pure (element_aim at aim t (Some i)))) (Ok whole) c.in_ok-ty.ensures
    (walks_step (λ i. pure (element_aim at aim ty (Some i))) c.in_ok-typed.ensures (step_pure {Gives = AimIn} _ whole (λ symbols n. (n.0.0.0, n.0.1, n.1))) (λ symbols n. n.0.1) (λ symbols b n g h. h))
    (λ symbols n. n.0))
    (λ m. element_step at aim (setting_of c.args.setting.now) m c.args.state.now index))
