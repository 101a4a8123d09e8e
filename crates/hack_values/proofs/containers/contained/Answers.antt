use Rattle.hack_rules.specs.Walks.{pure}
use Rattle.hack_walk.specs.WalkLaws.{walks_next, walks_pure}
use Rattle.hack_values.specs.inside.Rows.{contained, container_of}
use Rattle.hack_values.proofs.Naming.{in_container}
use Rattle.hack_values.proofs.containers.contained.Goals as goal

pub returns : goal.returns
unfolding contained
returns g c =
    let container = c.args.container in let types = c.args.types.now in
    rw c.in_ok-container_of.ensures (walks_next (pure (container_of container types)) _ c.in_ok-expect_elements.ensures
    (walks_pure _ _ (container_of container types) (λ symbols n. in_container symbols container types n)) (λ symbols n. n) (λ symbols n g. n) (λ symbols b n g h. h))
