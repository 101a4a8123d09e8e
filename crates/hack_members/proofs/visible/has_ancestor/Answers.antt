use Rattle.std.proofs.Common.{◌≡◌, ◌∙◌, ◌==◌, IsTrue, Ok, sym, ap, subst}
use Rattle.std.specs.List.{list_any}
use Rattle.hack_decls.specs.AskLaws.{looked, said}
use Rattle.hack_decls.specs.Names.{class_symbol}
use Rattle.hack_rules.specs.Classes.{ancestors_by, class_by}
use Rattle.hack_types.specs.declared.ids.SymbolId.{SymbolId}
use Rattle.hack_members.specs.inside.Rows.{is_at}
use Rattle.hack_members.proofs.Seen.{ancestor_law}
use Rattle.hack_members.proofs.visible.has_ancestor.Goals as goal

pub returns : goal.returns
returns g c =
    let s = c.class_symbol.result in let here : s ≡ class_symbol c.args.class = c.class_symbol.ensures in
    said c.is_at.result (looked (Ok c.in_ok-answer.answer) c.in_ok-answer.ensures)
    (λ m e. c.is_at.ensures ∙ ap is_at e ∙ ancestor_law c.args.origin (m s) ∙ ap (λ (t : SymbolId). list_any (λ a. a.name == c.args.origin) (ancestors_by (class_by (m t)))) here)
    (λ symbols n. subst (λ (t : SymbolId). IsTrue (symbols t)) (sym here) n) (λ symbols n w. tt)
