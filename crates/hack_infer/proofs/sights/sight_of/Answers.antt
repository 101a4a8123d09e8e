use Rattle.std.proofs.Common.{◌≡◌, ◌∙◌, ℕ, Option, List, length, option_map, All, sym, ap, subst}
use Rattle.std.specs.Option.{option_and_then}
use Rattle.hack_types.specs.Substituted.{limited}
use Rattle.hack_types.specs.declared.hack_type.HackType.{HackType}
use Rattle.hack_decls.specs.AskLaws.{unasked}
use Rattle.hack_decls.specs.DeclState.{Map}
use Rattle.hack_decls.specs.Names.{TypeIn, class_symbol}
use Rattle.hack_sub.specs.Knowing.{expanded_by, is_bad, known_as}
use Rattle.hack_sub.specs.Parts.{arguments_of}
use Rattle.hack_sub.specs.NamesOf.{in_class}
use Rattle.hack_infer.proofs.Restated.{restated}
use Rattle.hack_infer.specs.inside.Calls.{looked_at}
use Rattle.hack_infer.specs.Seeing.{sight_by}
use Rattle.hack_infer.specs.declared.sight.Sight.{Sight}
use Rattle.hack_infer.proofs.sights.sight_of.Goals as goal

-- by the name of the type
abbrev sight_as : Map → List HackType → Option ℕ → Sight
sight_as m us name = sight_by (is_bad (known_as m (length us) name)) (option_map limited (option_and_then (λ name. expanded_by us (m (class_symbol name))) name))

pub returns-in-Some : goal.returns-in-Some
returns-in-Some g c =
    let T = c.args.ty.now in
    let us : c.arguments_of.result.now ≡ arguments_of T = c.arguments_of.ensures in
    restated c.looked_at.result c.looked_at.ensures
    (λ m a e. e ∙ ap (λ (xs : List HackType). looked_at xs (m (class_symbol c.in-Some.name))) us ∙ ap (λ o. sight_as m (arguments_of T) o) c.in-Some.ensures)
    (λ symbols n. let own = in_class symbols T c.in-Some.name c.in-Some.ensures n in (own.0, subst (λ xs. All (TypeIn symbols) xs) (sym us) own.1))
    (λ symbols a n given. given)

pub returns-in-None : goal.returns-in-None
returns-in-None g c =
    let T = c.args.ty.now in
    unasked _ _ (λ m. ap (λ o. sight_as m (arguments_of T) o) c.in-None.ensures) (λ symbols n. tt)
