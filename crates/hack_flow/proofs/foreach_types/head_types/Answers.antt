use Rattle.hack_flow.specs.inside.ForeachRows.{head_types}
use Rattle.hack_rules.specs.Heads.{head_of}
use Rattle.hack_rules.specs.Loops.{types_by}
use Rattle.hack_types.specs.declared.hack_type.HackType.{HackType, out-HackType}
use Rattle.hack_walk.specs.WalkLaws.{reads_walks}
use Rattle.hack_flow.proofs.foreach_types.head_types.Goals as goal

pub returns : goal.returns
unfolding head_types
returns g c =
    reads_walks (λ m scope. head_of m scope c.args.ty) (λ (head : HackType). types_by c.args.at head (out-HackType head)) c.types_by-types.result
    c.in_ok-head.ensures c.types_by-types.ensures
    (λ symbols around n. (around, n)) (λ symbols n head. head) (λ symbols b n given h. h)
