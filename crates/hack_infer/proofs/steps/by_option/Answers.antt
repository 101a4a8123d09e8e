use Rattle.std.proofs.Common.{ap}
use Rattle.hack_decls.specs.DeclState.{Map}
use Rattle.hack_sub.specs.NamesOf.{in_option}
use Rattle.hack_infer.proofs.Takes.{takes_as}
use Rattle.hack_infer.specs.Matching.{match_in, option_by}
use Rattle.hack_infer.proofs.steps.by_option.Goals as goal

pub returns-in-Some : goal.returns-in-Some
returns-in-Some g c =
    let W = c.args.wanted.now in let G = c.args.given.now in let t = c.args.taken.now in
    let r = λ (map : Map). match_in c.args.deeper.now.depth map in
    takes_as _ c.into_option.result c.into_option.ensures (λ map. ap (λ o. option_by (r map) map W G o t) c.in-Some.ensures)
    (λ symbols n. record { keyed = n.keyed; wanted = in_option symbols W c.in-Some.inside.now c.in-Some.ensures n.wanted; given = n.given })

pub returns-in-None : goal.returns-in-None
returns-in-None g c =
    let W = c.args.wanted.now in let G = c.args.given.now in let t = c.args.taken.now in
    let r = λ (map : Map). match_in c.args.deeper.now.depth map in
    takes_as _ c.by_members.result c.by_members.ensures (λ map. ap (λ o. option_by (r map) map W G o t) c.in-None.ensures) (λ symbols n. n)
