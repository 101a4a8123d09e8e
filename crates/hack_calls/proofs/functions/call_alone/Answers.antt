use Rattle.hack_walk.specs.WalkLaws.{weaker}
use Rattle.hack_calls.proofs.functions.call_alone.Goals as goal

pub returns : goal.returns
returns g c =
    weaker c.call_with.result c.call_with.ensures (λ symbols n. (n.0, record { class = tt; function = tt; this = tt }, n.1)) (λ symbols a n g. g)
