use Rattle.hack_walk.specs.WalkLaws.{weaker}
use Rattle.hack_calls.proofs.calls.call_solved.Goals as goal

pub returns : goal.returns
returns g c =
    weaker c.call_filled.result c.call_filled.ensures
    (λ symbols n. (n.0, record { class = n.1.class; function = n.2; this = n.1.this }, n.2, n.3)) (λ symbols a n g. g)
