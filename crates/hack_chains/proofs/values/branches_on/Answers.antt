use Rattle.std.proofs.Common.{refl}
use Rattle.hack_types.specs.declared.hack_type.HackType.{HackType}
use Rattle.hack_rules.specs.Operators.{operation_of}
use Rattle.hack_walk.specs.WalkLaws.{walks_then}
use Rattle.hack_parts.specs.PartLaws.{value_walks}
use Rattle.hack_chains.specs.inside.Chaining.{branches_on, equality_of, outcome_branches}
use Rattle.hack_chains.proofs.values.branches_on.Goals as goal

pub returns : goal.returns
unfolding branches_on
returns g c =
    let operator = c.args.operator in
    walks_then (λ (second : HackType). outcome_branches c.args.at c.args.subject (equality_of operator) (operation_of operator) c.args.first.now second) c.outcome_branches.result
    (value_walks c.requires.right refl c.in_ok-second.ensures) c.outcome_branches.ensures (λ symbols n. n.1) (λ symbols n t. (n.0, t)) (λ symbols b n t h. h)
