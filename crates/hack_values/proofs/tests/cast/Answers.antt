use Rattle.std.proofs.Common.{Ok, refl}
use Rattle.hack_rules.specs.Values.{cast_row, cast_type}
use Rattle.hack_rules.specs.Walks.{pure}
use Rattle.hack_walk.specs.WalkLaws.{walks_next, walks_pure}
use Rattle.hack_parts.specs.PartLaws.{value_walks}
use Rattle.hack_values.proofs.Naming.{of_cast}
use Rattle.hack_values.proofs.tests.cast.Goals as goal

pub returns : goal.returns
unfolding cast_row
returns g c =
    let to = c.args.to in
    rw c.cast_type.ensures (walks_next (pure (cast_type to)) _ (value_walks c.requires.operand {result = Ok _} refl c.in_ok-ty.ensures)
    (walks_pure _ _ (cast_type to) (λ symbols n. of_cast symbols to)) (λ symbols n. n) (λ symbols n g. n) (λ symbols b n g h. h))
