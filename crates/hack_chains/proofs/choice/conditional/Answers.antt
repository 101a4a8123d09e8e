use Rattle.std.proofs.Common.{refl}
use Rattle.hack_rules.specs.Chains.{conditional_row}
use Rattle.hack_rules.specs.Expressions.{meaning_of}
use Rattle.hack_chains.specs.inside.Rest.{other_on, parts_on}
use Rattle.hack_walk.specs.WalkLaws.{walks_then}
use Rattle.hack_parts.specs.PartLaws.{condition_walks}
use Rattle.hack_chains.proofs.choice.conditional.Goals as goal

pub returns : goal.returns
unfolding conditional_row parts_on other_on
returns g c =
    walks_then (parts_on (meaning_of c.args.middle.now) (meaning_of c.args.other.now)) c.parts_on.result (condition_walks c.requires.c refl c.in_ok-branches.ensures)
    c.parts_on.ensures (λ symbols n. n.0) (λ symbols n b. (b, n.1, n.2)) (λ symbols b n t h. h)
