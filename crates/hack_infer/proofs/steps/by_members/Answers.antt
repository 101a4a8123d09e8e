use Rattle.std.proofs.Common.{ap}
use Rattle.hack_decls.specs.DeclState.{Map}
use Rattle.hack_sub.specs.NamesOf.{in_union}
use Rattle.hack_infer.proofs.Takes.{takes_as}
use Rattle.hack_infer.specs.Matching.{match_in, members_by}
use Rattle.hack_infer.proofs.steps.by_members.Goals as goal

pub returns-in-Some : goal.returns-in-Some
returns-in-Some g c =
    let W = c.args.wanted.now in let G = c.args.given.now in let t = c.args.taken.now in
    let r = λ (map : Map). match_in c.args.deeper.now.depth map in
    takes_as _ c.each_member.result c.each_member.ensures (λ map. ap (λ o. members_by (r map) map W G o t) c.in-Some.ensures)
    (λ symbols n. record { keyed = n.keyed; wanted = n.wanted; members = in_union symbols G c.in-Some.members.now c.in-Some.ensures n.given })

pub returns-in-None : goal.returns-in-None
returns-in-None g c =
    let W = c.args.wanted.now in let G = c.args.given.now in let t = c.args.taken.now in
    let r = λ (map : Map). match_in c.args.deeper.now.depth map in
    takes_as _ c.by_wanted_seen.result c.by_wanted_seen.ensures (λ map. ap (λ o. members_by (r map) map W G o t) c.in-None.ensures) (λ symbols n. n)
