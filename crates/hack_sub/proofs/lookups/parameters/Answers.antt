use Rattle.std.proofs.Common.{◌≡◌, ◌∙◌, Ok, IsTrue, sym, ap, subst}
use Rattle.hack_types.specs.declared.ids.SymbolId.{SymbolId}
use Rattle.hack_decls.specs.AskLaws.{looked, said}
use Rattle.hack_decls.specs.Names.{class_symbol}
use Rattle.hack_sub.proofs.Headings.{params_law}
use Rattle.hack_sub.specs.inside.Calls.{params_in}
use Rattle.hack_sub.specs.Knowing.{parameters_by}
use Rattle.hack_sub.proofs.lookups.parameters.Goals as goal

pub returns : goal.returns
returns g c =
    let s = c.class_symbol.result in
    let here : s ≡ class_symbol c.args.name = c.class_symbol.ensures in
    said c.params_in.result (looked (Ok c.in_ok-heading.heading) c.in_ok-heading.ensures)
    (λ map e. c.params_in.ensures ∙ ap params_in e ∙ params_law (map s) ∙ ap (λ (t : SymbolId). parameters_by (map t)) here)
    (λ symbols n. subst (λ (t : SymbolId). IsTrue (symbols t)) (sym here) n)
    (λ symbols n w. tt)
