use Rattle.std.proofs.Common.{Ok}
use Rattle.hack_rules.specs.Walks.{pure}
use Rattle.hack_walk.specs.WalkLaws.{walks_next, walks_pure}
use Rattle.hack_new.specs.inside.Solving.{call_as}
use Rattle.hack_new.proofs.solved.call_as.Goals as goal

pub returns : goal.returns
unfolding call_as
returns g c =
    walks_next (pure tt) (Ok tt) c.in_ok-ty.ensures (walks_pure {Names = λ symbols. Unit {0}} _ _ tt (λ symbols n. tt))
    (λ symbols n. (n.0, record { class = tt; function = tt; this = n.1 }, n.2, n.3)) (λ symbols n g. tt) (λ symbols b n g h. h)
