use Rattle.std.proofs.Common.{◌≡◌, ◌∙◌, Some, None, sym, ap}
use Rattle.hack_decls.specs.DeclState.{Map}
use Rattle.hack_sub.specs.Parts.{as_keyed}
use Rattle.hack_sub.specs.NamesOf.{in_keyed}
use Rattle.hack_infer.proofs.Takes.{takes_as}
use Rattle.hack_infer.specs.Matching.{match_in, given_by, keyed_or}
use Rattle.hack_infer.specs.Seeing.{seen_as}
use Rattle.hack_infer.proofs.steps.by_keyed.Goals as goal

pub returns-in-Some : goal.returns-in-Some
returns-in-Some g c =
    let us = c.args.arguments.now in let G = c.args.given.now in let t = c.args.taken.now in let name = c.args.name in
    let r = λ (map : Map). match_in c.args.deeper.now.depth map in
    let is : Some c.in-Some.keyed ≡ as_keyed G = sym c.in-Some.is ∙ c.in_ok-keyed.ensures in
    takes_as _ c.by_class.result c.by_class.ensures
    (λ map. ap (λ o. given_by (r map) us (seen_as map name (keyed_or G o)) t) is)
    (λ symbols n. record { keyed = n.keyed; wanted = n.wanted; given = in_keyed symbols G c.in-Some.keyed is n.keyed n.given })

pub returns : goal.returns
returns g c =
    let us = c.args.arguments.now in let G = c.args.given.now in let t = c.args.taken.now in let name = c.args.name in
    let r = λ (map : Map). match_in c.args.deeper.now.depth map in
    let is : None ≡ as_keyed G = sym c.in-None.is ∙ c.in_ok-keyed.ensures in
    takes_as _ c.by_class-in-None.result c.by_class-in-None.ensures
    (λ map. ap (λ o. given_by (r map) us (seen_as map name (keyed_or G o)) t) is)
    (λ symbols n. n)
