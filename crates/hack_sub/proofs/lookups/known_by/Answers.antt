use Rattle.std.proofs.Common.{◌≡◌, ◌∙◌, Ok, IsTrue, sym, ap, subst}
use Rattle.hack_types.specs.declared.ids.SymbolId.{SymbolId}
use Rattle.hack_decls.specs.AskLaws.{looked, said}
use Rattle.hack_decls.specs.Names.{class_symbol}
use Rattle.hack_sub.proofs.Headings.{known_law}
use Rattle.hack_sub.specs.inside.Calls.{known_heading}
use Rattle.hack_sub.specs.Knowing.{known_by}
use Rattle.hack_sub.proofs.lookups.known_by.Goals as goal

pub returns : goal.returns
returns g c =
    let s = c.class_symbol.result in
    let here : s ≡ class_symbol c.args.name = c.class_symbol.ensures in
    let count = c.args.count in
    said c.known_heading.result (looked (Ok c.in_ok-heading.heading) c.in_ok-heading.ensures)
    (λ map e. c.known_heading.ensures ∙ ap (known_heading count) e ∙ known_law count (map s) ∙ ap (λ (t : SymbolId). known_by count (map t)) here)
    (λ symbols n. subst (λ (t : SymbolId). IsTrue (symbols t)) (sym here) n)
    (λ symbols n w. tt)
