use Rattle.std.proofs.Common.{ap}
use Rattle.hack_infer.proofs.Takes.{asks_then}
use Rattle.hack_infer.specs.Matching.{match_in}
use Rattle.hack_infer.proofs.steps.into_option.Goals as goal

pub returns : goal.returns
returns g c =
    asks_then _ c.matched.result c.in_ok-rest.ensures c.matched.ensures
    (λ map e. ap (λ rest. match_in c.args.deeper.now.depth map c.args.inside.now rest c.args.taken.now) e)
    (λ symbols n. n.given) (λ symbols n given. record { keyed = n.keyed; wanted = n.wanted; given = given })
