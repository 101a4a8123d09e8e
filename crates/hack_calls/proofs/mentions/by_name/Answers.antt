use Rattle.hack_rules.specs.Walks.{pure}
use Rattle.hack_walk.specs.WalkLaws.{step_pure, walks_step}
use Rattle.hack_calls.specs.inside.Rows.{type_by}
use Rattle.hack_calls.proofs.Naming.{in_type_by}
use Rattle.hack_calls.proofs.mentions.by_name.Goals as goal

pub returns : goal.returns
returns g c =
    let name = c.args.name in let d = c.in_ok-declared.declared in
    rw c.in_ok-type_by.ensures (walks_step (λ declared. pure (type_by name declared)) c.in_ok-declared.ensures
    (step_pure _ (type_by name d) (λ symbols n. in_type_by symbols name d n.0)) (λ symbols n. n) (λ symbols b n g h. h))
