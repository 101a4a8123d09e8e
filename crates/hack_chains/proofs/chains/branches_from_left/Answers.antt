use Rattle.std.proofs.Common.{Ok, map}
use Rattle.hack_rules.specs.Chains.{from_left}
use Rattle.hack_rules.specs.Expressions.{meaning_of}
use Rattle.hack_walk.specs.WalkLaws.{weaker}
use Rattle.hack_parts.specs.Forms.{joined_of}
use Rattle.hack_parts.specs.PartNames.{in_chained}
use Rattle.hack_chains.proofs.LeftSteps.{last_branches, reached_as}
use Rattle.hack_chains.proofs.chains.branches_from_left.Goals as goal

pub returns : goal.returns
returns g c =
    let front = c.args.front.now in let last = c.args.last.now in let first = meaning_of c.args.first.now in
    last_branches first c.place_of.result c.compared_at-subject.result last front c.step_branches.result c.place_of.ensures
    c.compared_at-subject.ensures
    (reached_as (from_left first (map joined_of front)) c.asked-wanted.ensures
    (weaker (Ok c.in_ok-so_far.so_far) c.in_ok-so_far.ensures (λ symbols n. (n.first, n.front)) (λ symbols b n t. t)))
    c.step_branches.ensures (λ symbols n t. (t, in_chained c.args.setting.now.scope.now symbols last n.last))
