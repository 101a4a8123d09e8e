use Rattle.std.proofs.Common.{◌≡◌, ◌∙◌, sym, ap, subst}
use Rattle.hack_decls.specs.DeclState.{Map}
use Rattle.hack_infer.proofs.Takes.{asks_none, asks_then}
use Rattle.hack_infer.specs.Matching.{match_in, given_seen}
use Rattle.hack_infer.specs.Named.{SightIn}
use Rattle.hack_infer.specs.declared.sight.Sight.{Sight}
use Rattle.hack_infer.specs.declared.sight.Sight.TheVariants as sight
use Rattle.hack_infer.proofs.steps.by_given_seen.Goals as goal

pub returns-in-Alias : goal.returns-in-Alias
returns-in-Alias g c =
    let W = c.args.wanted.now in let G = c.args.given.now in let t = c.args.taken.now in
    let r = λ (map : Map). match_in c.args.deeper.now.depth map in
    let is : c.in_ok-sight.sight ≡ sight.Alias c.in-Alias.next = c.in-Alias.is in
    asks_then _ c.expanding.result c.in_ok-sight.ensures c.expanding.ensures
    (λ map e. ap (λ s. given_seen (r map) map W G s t) (sym is ∙ e))
    (λ symbols n. n.given)
    (λ symbols n there. let given = subst (λ (s : Sight). SightIn symbols s) is there in record { keyed = n.keyed; wanted = n.wanted; given = given })

pub returns-in-Bad : goal.returns-in-Bad
returns-in-Bad g c =
    let W = c.args.wanted.now in let G = c.args.given.now in let t = c.args.taken.now in
    let r = λ (map : Map). match_in c.args.deeper.now.depth map in
    asks_none t _ c.in_ok-sight.ensures (λ map e. ap (λ s. given_seen (r map) map W G s t) (sym c.in-Bad.is ∙ e)) (λ symbols n. n.given)

pub returns : goal.returns
returns g c =
    let W = c.args.wanted.now in let G = c.args.given.now in let t = c.args.taken.now in
    let r = λ (map : Map). match_in c.args.deeper.now.depth map in
    asks_then _ c.vectors.result c.in_ok-sight.ensures c.vectors.ensures
    (λ map e. ap (λ s. given_seen (r map) map W G s t) (sym c.in-Other.is ∙ e))
    (λ symbols n. n.given) (λ symbols n there. n)
