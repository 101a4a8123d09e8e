use Rattle.std.proofs.Common.{◌∙◌, Some, ap}
use Rattle.hack_decls.specs.DeclState.{Map}
use Rattle.hack_sub.specs.Parts.{keyset_item}
use Rattle.hack_sub.specs.NamesOf.{in_keyset}
use Rattle.hack_infer.proofs.Takes.{takes_as}
use Rattle.hack_infer.specs.Matching.{match_in, both_or, dicts}
use Rattle.hack_infer.proofs.steps.keysets.Goals as goal

pub returns-in-Some-Some : goal.returns-in-Some-Some
returns-in-Some-Some g c =
    let W = c.args.wanted.now in let G = c.args.given.now in let t = c.args.taken.now in
    let r = λ (map : Map). match_in c.args.deeper.now.depth map in
    let U = c.in-Some-Some.item.now in let V = c.in-Some-Some.other.now in
    takes_as _ c.matched.result c.matched.ensures
    (λ map. ap (λ o. both_or (r map) (dicts (r map) map W G) o (Some V) t) c.in-Some-Some.ensures ∙ ap (λ o. both_or (r map) (dicts (r map) map W G) (keyset_item W) o t) c.in-Some-Some.ensures')
    (λ symbols n. record { keyed = n.keyed; wanted = in_keyset symbols W U c.in-Some-Some.ensures n.wanted; given = in_keyset symbols G V c.in-Some-Some.ensures' n.given })
