use Rattle.std.proofs.Common.{◌∙◌, ap, sym}
use Rattle.hack_types.specs.Substituted.{limited}
use Rattle.hack_rules.specs.Loops.{keyed_by}
use Rattle.hack_walk.specs.NamesKept.{in_limited}
use Rattle.hack_walk.specs.WalkLaws.{weaker}
use Rattle.hack_flow.proofs.Foreaching.{by_two, in_two, keyed_two, walks_given, walks_same}
use Rattle.hack_flow.proofs.foreach_types.keyed_by.Goals as goal

pub returns-in_ok-both_limited-in-Some : goal.returns-in_ok-both_limited-in-Some
returns-in_ok-both_limited-in-Some g c =
    let at = c.args.at in let head = c.args.head.now in let given = c.args.given.now in
    let key = c.in-Some.key.now in let value = c.in-Some.value.now in
    walks_given (keyed_by at head given) _ c.args.state.now (limited key, limited value) _
    (keyed_two at head given ∙ ap (by_two at head) (sym c.in-Some.ensures)) c.in_ok-both_limited-in-Some.ensures
    (λ symbols n. let both = in_two symbols (key, value) given c.in-Some.ensures n.1 in (in_limited symbols key both.0, in_limited symbols value both.1))

pub returns-in-None : goal.returns-in-None
returns-in-None g c =
    let at = c.args.at in let head = c.args.head.now in let given = c.args.given.now in
    walks_same _ c.traversed.result (keyed_two at head given ∙ ap (by_two at head) (sym c.in-None.ensures))
    (weaker c.traversed.result c.traversed.ensures (λ symbols n. n.0) (λ symbols a n h. h))
