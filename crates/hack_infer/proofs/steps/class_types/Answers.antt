use Rattle.std.proofs.Common.{◌≡◌, ◌∙◌, All, sym, ap, subst}
use Rattle.hack_decls.specs.DeclState.{Map}
use Rattle.hack_decls.specs.Names.{TypeIn}
use Rattle.hack_sub.specs.Parts.{arguments_of, as_keyed}
use Rattle.hack_sub.specs.NamesOf.{in_class}
use Rattle.hack_infer.proofs.Takes.{takes_as, takes_none}
use Rattle.hack_infer.specs.Matching.{match_in, class_by, given_by, keyed_or}
use Rattle.hack_infer.specs.Seeing.{seen_as}
use Rattle.hack_infer.proofs.steps.class_types.Goals as goal

pub returns-in-Some : goal.returns-in-Some
returns-in-Some g c =
    let W = c.args.wanted.now in let G = c.args.given.now in let t = c.args.taken.now in
    let r = λ (map : Map). match_in c.args.deeper.now.depth map in
    let us : c.arguments_of.result.now ≡ arguments_of W = c.arguments_of.ensures in
    takes_as _ c.by_keyed.result c.by_keyed.ensures
    (λ map. ap (λ xs. given_by (r map) xs (seen_as map c.in-Some.name (keyed_or G (as_keyed G))) t) us ∙ ap (λ o. class_by (r map) map W G o t) c.in-Some.ensures)
    (λ symbols n. record { keyed = n.keyed; wanted = subst (λ xs. All (TypeIn symbols) xs) (sym us) (in_class symbols W c.in-Some.name c.in-Some.ensures n.wanted).1; given = n.given })

pub returns-in-None : goal.returns-in-None
returns-in-None g c =
    let W = c.args.wanted.now in let G = c.args.given.now in let t = c.args.taken.now in
    let r = λ (map : Map). match_in c.args.deeper.now.depth map in
    takes_none _ t _ (λ map. ap (λ o. class_by (r map) map W G o t) c.in-None.ensures)
