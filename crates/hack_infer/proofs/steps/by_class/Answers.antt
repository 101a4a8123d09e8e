use Rattle.std.proofs.Common.{◌≡◌, ◌∙◌, Option, ℕ, All, sym, ap, subst}
use Rattle.hack_decls.specs.DeclState.{Map}
use Rattle.std.specs.Option.{option_and_then}
use Rattle.hack_decls.specs.Names.{TypeIn}
use Rattle.hack_sub.specs.Parts.{arguments_of}
use Rattle.hack_sub.specs.NamesOf.{in_class}
use Rattle.hack_infer.proofs.Takes.{takes_as, takes_none}
use Rattle.hack_infer.specs.Matching.{match_in, given_by}
use Rattle.hack_infer.specs.Seeing.{given}
use Rattle.hack_infer.proofs.steps.by_class.Goals as goal

pub returns-in-Some : goal.returns-in-Some
returns-in-Some g c =
    let us = c.args.arguments.now in let G = c.args.given.now in let t = c.args.taken.now in let name = c.args.name in
    let r = λ (map : Map). match_in c.args.deeper.now.depth map in
    let vs : c.arguments_of.result.now ≡ arguments_of G = c.arguments_of.ensures in
    takes_as _ c.from_class.result c.from_class.ensures
    (λ map. ap (λ xs. given_by (r map) us (given map c.in-Some.class xs name) t) vs
    ∙ ap (λ (o : Option ℕ). given_by (r map) us (option_and_then (λ class. given map class (arguments_of G) name) o) t) c.in-Some.ensures)
    (λ symbols n. let own = in_class symbols G c.in-Some.class c.in-Some.ensures n.given in
    record { class = own.0; pairs = record { keyed = n.keyed; wanted = n.wanted; given = subst (λ xs. All (TypeIn symbols) xs) (sym vs) own.1 } })

pub returns-in-None : goal.returns-in-None
returns-in-None g c =
    let us = c.args.arguments.now in let G = c.args.given.now in let t = c.args.taken.now in let name = c.args.name in
    let r = λ (map : Map). match_in c.args.deeper.now.depth map in
    takes_none _ t _ (λ map. ap (λ (o : Option ℕ). given_by (r map) us (option_and_then (λ class. given map class (arguments_of G) name) o) t) c.in-None.ensures)
