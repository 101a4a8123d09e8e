use Rattle.std.proofs.Common.{Option, Ok, ap}
use Rattle.hack_rules.specs.Indices.{expect_index}
use Rattle.hack_rules.specs.Meanings.{Index}
use Rattle.hack_walk.specs.WalkLaws.{walks_pure}
use Rattle.hack_targets.proofs.Stepping.{walks_same}
use Rattle.hack_targets.proofs.bases.expect_index.Goals as goal

pub returns-in-None : goal.returns-in-None
returns-in-None g c =
    walks_same _ (Ok tt) (ap (λ (index : Option Index). expect_index c.args.key.now index) c.in-None.is) (walks_pure _ c.args.state.now tt (λ symbols n. tt))
