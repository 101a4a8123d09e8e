use Rattle.std.proofs.Common.{◌≡◌, ◌∙◌, IsTrue, List, Option, ap, subst, sym}
use Rattle.hack_types.specs.declared.ids.SymbolId.{SymbolId}
use Rattle.hack_decls.specs.AskLaws.{looked_names, then}
use Rattle.hack_decls.specs.Names.{class_symbol}
use Rattle.hack_decls.specs.declared.folded.Ancestor.{Ancestor}
use Rattle.hack_decls.specs.declared.folded.Folded.{Folded}
use Rattle.hack_calls.specs.inside.Rows.{AncestorsIn, ancestors_of, first_of}
use Rattle.hack_calls.proofs.Heading.{in_ancestors}
use Rattle.hack_calls.proofs.parents.class_above.Goals as goal

pub returns : goal.returns
returns g c =
    let s = c.class_symbol.result in let found = c.in_ok-found.found in
    let here : s ≡ class_symbol c.args.name = c.class_symbol.ensures in
    let own : c.ancestors_of.result.now ≡ ancestors_of found = c.ancestors_of.ensures in
    then c.first_of-parent.result
    (looked_names found (λ symbols o. AncestorsIn symbols (ancestors_of o)) (λ symbols entry e. in_ancestors symbols found _ entry e) c.in_ok-found.ensures)
    c.first_of-parent.ensures
    (λ map b e there. there ∙ ap (first_of map) own ∙ ap (λ (o : Option Folded). first_of map (ancestors_of o)) e
    ∙ ap (λ (t : SymbolId). first_of map (ancestors_of (map t))) here)
    (λ symbols n. subst (λ (t : SymbolId). IsTrue (symbols t)) (sym here) n)
    (λ symbols n g. subst (λ (as_ : List Ancestor). AncestorsIn symbols as_) (sym own) g) (λ symbols b n g h. h)
