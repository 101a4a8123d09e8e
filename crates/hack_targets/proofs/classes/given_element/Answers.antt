use Rattle.std.proofs.Common.{List, Ok, Option, ap}
use Rattle.hack_rules.specs.Indices.{keyed_element}
use Rattle.hack_types.specs.declared.hack_type.HackType.{HackType}
use Rattle.hack_walk.specs.WalkLaws.{of_step}
use Rattle.hack_targets.proofs.Stepping.{steps_more, walks_same}
use Rattle.hack_targets.proofs.classes.given_element.Goals as goal

pub returns-in_ok-refuse_indexed-in-None : goal.returns-in_ok-refuse_indexed-in-None
returns-in_ok-refuse_indexed-in-None g c =
    walks_same _ (Ok _) (ap (λ (given : Option (List HackType)). keyed_element c.args.at c.args.head.now c.args.index.now given) c.in-None.is)
    (of_step _ (steps_more (Ok _) c.in_ok-refuse_indexed-in-None.ensures (λ symbols n. tt)))
