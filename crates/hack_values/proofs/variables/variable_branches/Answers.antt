use Rattle.hack_rules.specs.Refining.{bare_branches}
use Rattle.hack_rules.specs.Values.{variable_branches}
use Rattle.hack_walk.specs.WalkLaws.{of_step, walks_next}
use Rattle.hack_values.proofs.variables.variable_branches.Goals as goal

pub returns : goal.returns
unfolding variable_branches
returns g c =
    walks_next (bare_branches c.args.name) c.bare_branches.result (of_step _ c.in_ok-ty.ensures) c.bare_branches.ensures
    (λ symbols n. tt) (λ symbols n g. tt) (λ symbols b n g h. h)
