use Rattle.std.proofs.Common.{◌≡◌, ◌∙◌, IsTrue, Ok, sym, ap, subst}
use Rattle.hack_decls.specs.AskLaws.{looked, said}
use Rattle.hack_decls.specs.Names.{class_symbol}
use Rattle.hack_types.specs.declared.ids.SymbolId.{SymbolId}
use Rattle.hack_members.specs.Wanting.{tag_of}
use Rattle.hack_members.specs.inside.Rows.{is_case, is_case_in}
use Rattle.hack_members.proofs.Seen.{case_law}
use Rattle.hack_members.proofs.cases.is_case.Goals as goal

pub returns : goal.returns
returns g c =
    let s = c.class_symbol.result in let here : s ≡ class_symbol c.args.name = c.class_symbol.ensures in
    let tag = tag_of c.args.wanted.now.sought in let name = c.args.wanted.now.name in
    said c.is_case_in.result (looked (Ok c.in_ok-heading.heading) c.in_ok-heading.ensures)
    (λ m e. c.is_case_in.ensures ∙ ap (is_case_in tag name) e ∙ case_law tag name (m s) ∙ ap (λ (t : SymbolId). is_case tag name (m t)) here)
    (λ symbols n. subst (λ (t : SymbolId). IsTrue (symbols t)) (sym here) n) (λ symbols n w. tt)
