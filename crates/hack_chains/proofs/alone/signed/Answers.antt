use Rattle.std.proofs.Common.{refl}
use Rattle.hack_operators.specs.Seen.{sign_seen}
use Rattle.hack_rules.specs.Chains.{sign_row}
use Rattle.hack_rules.specs.Operators.{operate_alone}
use Rattle.hack_walk.specs.WalkLaws.{walks_then}
use Rattle.hack_parts.specs.PartLaws.{value_walks}
use Rattle.hack_chains.proofs.alone.signed.Goals as goal

pub returns : goal.returns
unfolding sign_row
returns g c =
    walks_then (operate_alone c.args.at (sign_seen c.args.sign)) c.operate_alone.result (value_walks c.requires.operand refl c.in_ok-ty.ensures)
    c.operate_alone.ensures (λ symbols n. n) (λ symbols n t. t) (λ symbols b n t h. h)
