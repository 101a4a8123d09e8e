use Rattle.std.proofs.Common.{◌≡◌, ◌∙◌, All, sym, ap, subst}
use Rattle.std.specs.Option.{option_and_then}
use Rattle.hack_decls.specs.Names.{TypeIn, class_symbol}
use Rattle.hack_sub.specs.NamesOf.{in_class}
use Rattle.hack_sub.proofs.Tells.{restated}
use Rattle.hack_sub.specs.IsBelow.{small_only}
use Rattle.hack_sub.specs.Knowing.{expanded_by}
use Rattle.hack_sub.specs.Parts.{arguments_of}
use Rattle.hack_sub.proofs.lookups.expanded.Goals as goal

pub returns-in-Some : goal.returns-in-Some
returns-in-Some g c =
    let T = c.args.ty.now in
    let us : c.arguments_of.result.now ≡ arguments_of T = c.arguments_of.ensures in
    restated c.expanded_by.result c.expanded_by.ensures
    (λ m a e. e ∙ ap (λ xs. option_and_then small_only (expanded_by xs (m (class_symbol c.in-Some.name)))) us
    ∙ ap (λ o. option_and_then small_only (option_and_then (λ name. expanded_by (arguments_of T) (m (class_symbol name))) o)) c.in-Some.ensures)
    (λ symbols n. let own = in_class symbols T c.in-Some.name c.in-Some.ensures n in (own.0, subst (λ xs. All (TypeIn symbols) xs) (sym us) own.1))
    (λ symbols a n given. given)
