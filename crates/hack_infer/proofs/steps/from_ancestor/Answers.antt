use Rattle.std.proofs.Common.{◌≡◌, ◌∙◌, Some, All, sym, ap, subst}
use Rattle.hack_decls.specs.DeclState.{Map}
use Rattle.hack_decls.specs.Names.{TypeIn}
use Rattle.hack_sub.specs.NamesOf.{many_given}
use Rattle.hack_infer.proofs.Takes.{asks_none, asks_then}
use Rattle.hack_infer.specs.Matching.{match_in, given_by, pairs}
use Rattle.hack_infer.proofs.steps.from_ancestor.Goals as goal

pub returns-in-Some : goal.returns-in-Some
returns-in-Some g c =
    let us = c.args.arguments.now in let G = c.args.types.now in let t = c.args.taken.now in let name = c.args.name in
    let r = λ (map : Map). match_in c.args.deeper.now.depth map in
    let is : c.in_ok-seen.seen ≡ Some c.in-Some.given = c.in-Some.is in
    let slice : c.as_slice.result.now ≡ c.in-Some.given = c.as_slice.ensures in
    asks_then _ c.pairs.result c.in_ok-seen.ensures c.pairs.ensures
    (λ map e. ap (λ xs. pairs (r map) us xs t) slice ∙ ap (λ o. given_by (r map) us o t) (sym is ∙ e))
    (λ symbols n. (n.class, n.pairs.given))
    (λ symbols n given. record { keyed = n.pairs.keyed; wanted = n.pairs.wanted; given = subst (λ xs. All (TypeIn symbols) xs) (sym slice) (many_given symbols is given) })

pub returns : goal.returns
returns g c =
    let us = c.args.arguments.now in let G = c.args.types.now in let t = c.args.taken.now in let name = c.args.name in
    let r = λ (map : Map). match_in c.args.deeper.now.depth map in
    asks_none t _ c.in_ok-seen.ensures (λ map e. ap (λ o. given_by (r map) us o t) (sym c.in-None.is ∙ e)) (λ symbols n. (n.class, n.pairs.given))
