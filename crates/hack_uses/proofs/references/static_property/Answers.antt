use Rattle.std.proofs.Common.{false}
use Rattle.hack_rules.specs.Members.{member_of, property_of, static_alone}
use Rattle.hack_rules.specs.Uses.{static_property, through}
use Rattle.hack_walk.specs.WalkLaws.{walks_then}
use Rattle.hack_uses.proofs.references.static_property.Goals as goal

pub returns : goal.returns
unfolding static_property
returns g c =
    walks_then (through (member_of c.args.at (property_of static_alone false c.args.name))) c.through.result c.in_ok-ty.ensures c.through.ensures
    (λ symbols n. n) (λ symbols n t. (t, tt)) (λ symbols b n t h. h)
