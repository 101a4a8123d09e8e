use Rattle.hack_rules.specs.Values.{test_by, test_row}
use Rattle.hack_walk.specs.WalkLaws.{walks_then}
use Rattle.hack_values.proofs.tests.test_type.Goals as goal

pub returns : goal.returns
unfolding test_row
returns g c =
    walks_then (λ tested. test_by c.args.subject c.args.test.now.operator tested) c.by_operator.result c.in_ok-tested.ensures c.by_operator.ensures
    (λ symbols n. n) (λ symbols n g. g) (λ symbols b n g h. h)
