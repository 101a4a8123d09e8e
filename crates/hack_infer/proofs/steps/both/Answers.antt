use Rattle.std.proofs.Common.{ap}
use Rattle.hack_infer.proofs.Takes.{takes_then}
use Rattle.hack_infer.specs.Matching.{match_in}
use Rattle.hack_infer.proofs.steps.both.Goals as goal

pub returns : goal.returns
returns g c =
    takes_then _ c.matched-2.result c.in_ok-matched.ensures c.matched-2.ensures
    (λ map is. ap (λ between. match_in c.args.deeper.now.depth map c.args.value.now c.args.other_value.now between) is)
    (λ symbols n. n.keys) (λ symbols n. n.values)
