use Rattle.std.proofs.Common.{◌∙◌, ap, sym, subst}
use Rattle.hack_decls.specs.DeclState.{Map}
use Rattle.hack_infer.proofs.TakenLaws.{in_taking}
use Rattle.hack_infer.proofs.Takes.{takes_alone, takes_as}
use Rattle.hack_infer.specs.Matching.{match_in, param_by}
use Rattle.hack_infer.specs.inside.Calls.{TakenIn}
use Rattle.hack_infer.specs.declared.taken.Taken.{Taken}
use Rattle.hack_infer.proofs.steps.by_wanted.Goals as goal

pub returns-in_ok-take-in-Some : goal.returns-in_ok-take-in-Some
returns-in_ok-take-in-Some g c =
    let W = c.args.wanted.now in let G = c.args.given.now in let t = c.args.taken.now in
    let r = λ (map : Map). match_in c.args.deeper.now.depth map in
    takes_alone _ t _ _ (λ map. c.in_ok-take-in-Some.ensures ∙ ap (λ o. param_by (r map) map W G o t) c.in-Some.ensures)
    (λ symbols n was. subst (λ (taken : Taken). TakenIn symbols taken) (sym c.in_ok-take-in-Some.ensures) (in_taking symbols c.in-Some.position G t n.given was))

pub returns-in-None : goal.returns-in-None
returns-in-None g c =
    let W = c.args.wanted.now in let G = c.args.given.now in let t = c.args.taken.now in
    let r = λ (map : Map). match_in c.args.deeper.now.depth map in
    takes_as _ c.by_option.result c.by_option.ensures (λ map. ap (λ o. param_by (r map) map W G o t) c.in-None.ensures) (λ symbols n. n)
