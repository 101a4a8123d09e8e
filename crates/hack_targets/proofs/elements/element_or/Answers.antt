use Rattle.std.proofs.Common.{Ok, Option, ap}
use Rattle.hack_rules.specs.Indices.{element_or}
use Rattle.hack_rules.specs.Meanings.{Index}
use Rattle.hack_walk.specs.WalkLaws.{of_step}
use Rattle.hack_targets.proofs.Stepping.{steps_more, walks_same}
use Rattle.hack_targets.proofs.elements.element_or.Goals as goal

pub returns-in_ok-refuse_indexed-in-None : goal.returns-in_ok-refuse_indexed-in-None
returns-in_ok-refuse_indexed-in-None g c =
    walks_same _ (Ok _) (ap (λ (index : Option Index). element_or c.args.at c.args.left c.args.head.now index) c.in-None.is)
    (of_step _ (steps_more (Ok _) c.in_ok-refuse_indexed-in-None.ensures (λ symbols n. tt)))
