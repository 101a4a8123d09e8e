use Rattle.std.proofs.Common.{Ok, None, map}
use Rattle.hack_rules.specs.Chains.{from_left}
use Rattle.hack_rules.specs.Expressions.{meaning_of}
use Rattle.hack_walk.specs.WalkLaws.{weaker}
use Rattle.hack_parts.specs.Forms.{joined_of}
use Rattle.hack_parts.specs.PartNames.{in_chained}
use Rattle.hack_chains.proofs.LeftSteps.{last_value, reached_as}
use Rattle.hack_chains.proofs.chains.value_from_left.Goals as goal

pub returns : goal.returns
returns g c =
    let front = c.args.front.now in let last = c.args.last.now in let first = meaning_of c.args.first.now in
    last_value first c.place_of.result None last front c.step_value.result c.place_of.ensures
    (reached_as (from_left first (map joined_of front)) c.asked-wanted.ensures
    (weaker (Ok c.in_ok-so_far.so_far) c.in_ok-so_far.ensures (λ symbols n. (n.first, n.front)) (λ symbols b n t. t)))
    c.step_value.ensures (λ symbols n t. (t, in_chained c.args.setting.now.scope.now symbols last n.last))
