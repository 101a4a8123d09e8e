use Rattle.hack_rules.specs.Uses.{class_constant, constant_walk, through}
use Rattle.hack_walk.specs.WalkLaws.{walks_then}
use Rattle.hack_uses.proofs.references.class_constant.Goals as goal

pub returns : goal.returns
unfolding class_constant
returns g c =
    walks_then (through (constant_walk c.args.at c.args.class.now c.args.name)) c.constant_through.result c.in_ok-ty.ensures c.constant_through.ensures
    (λ symbols n. n) (λ symbols n t. t) (λ symbols b n t h. h)
