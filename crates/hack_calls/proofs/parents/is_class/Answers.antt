use Rattle.std.proofs.Common.{◌≡◌, ◌∙◌, IsTrue, ap, subst, sym}
use Rattle.hack_types.specs.declared.ids.SymbolId.{SymbolId}
use Rattle.hack_decls.specs.AskLaws.{looked, said}
use Rattle.hack_decls.specs.Names.{class_symbol}
use Rattle.hack_rules.specs.Classes.{class_by, is_class_by}
use Rattle.hack_calls.specs.inside.Rows.{is_class_heading}
use Rattle.hack_calls.proofs.Heading.{class_law}
use Rattle.hack_calls.proofs.parents.is_class.Goals as goal

pub returns : goal.returns
returns g c =
    let s = c.class_symbol.result in
    let here : s ≡ class_symbol c.args.name = c.class_symbol.ensures in
    said c.is_class_heading.result (looked _ c.in_ok-heading.ensures)
    (λ map e. c.is_class_heading.ensures ∙ ap is_class_heading e ∙ class_law (map s) ∙ ap (λ (t : SymbolId). is_class_by (class_by (map t))) here)
    (λ symbols n. subst (λ (t : SymbolId). IsTrue (symbols t)) (sym here) n) (λ symbols n g. tt)
