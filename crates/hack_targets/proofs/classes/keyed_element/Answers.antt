use Rattle.std.proofs.Common.{◌∙◌, Ok, ap, sym}
use Rattle.hack_walk.specs.WalkLaws.{of_step, weaker}
use Rattle.hack_targets.proofs.Keyed.{by_pair, in_pair, pair_element}
use Rattle.hack_targets.proofs.Stepping.{steps_more, walks_same}
use Rattle.hack_targets.proofs.classes.keyed_element.Goals as goal

pub returns-in-Some : goal.returns-in-Some
returns-in-Some g c =
    let at = c.args.at in let head = c.args.head.now in let index = c.args.index.now in let own = c.args.arguments.now in
    walks_same _ c.element_at.result (by_pair at head index own ∙ ap (pair_element at head index) (sym c.in-Some.ensures))
    (weaker c.element_at.result c.element_at.ensures (λ symbols n. let both = in_pair symbols _ own c.in-Some.ensures n.0 in (both.0, both.1, n.1)) (λ symbols a n h. h))

pub returns-in_ok-refuse_indexed-in-None : goal.returns-in_ok-refuse_indexed-in-None
returns-in_ok-refuse_indexed-in-None g c =
    let at = c.args.at in let head = c.args.head.now in let index = c.args.index.now in let own = c.args.arguments.now in
    walks_same _ (Ok _) (by_pair at head index own ∙ ap (pair_element at head index) (sym c.in-None.ensures))
    (of_step _ (steps_more (Ok _) c.in_ok-refuse_indexed-in-None.ensures (λ symbols n. tt)))
