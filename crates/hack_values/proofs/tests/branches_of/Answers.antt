use Rattle.hack_rules.specs.Refining.{tested_branches}
use Rattle.hack_walk.specs.WalkLaws.{walks_then}
use Rattle.hack_values.specs.inside.Rows.{branches_of}
use Rattle.hack_values.proofs.tests.branches_of.Goals as goal

pub returns : goal.returns
unfolding branches_of
returns g c =
    walks_then (tested_branches c.args.subject) c.tested_branches-branches.result c.in_ok-tested.ensures c.tested_branches-branches.ensures
    (λ symbols n. n) (λ symbols n g. g) (λ symbols b n g h. h)
