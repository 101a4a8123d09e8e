use Rattle.std.proofs.Common.{◌≡◌, ◌∙◌, Option, IsTrue, IfSome, All, sym, ap, subst}
use Rattle.std.specs.Option.{option_and_then}
use Rattle.hack_types.specs.declared.hack_type.HackType.{HackType}
use Rattle.hack_types.specs.declared.ids.SymbolId.{SymbolId}
use Rattle.hack_decls.specs.NameLaws.{in_heading_answer, types_of_heading_answer}
use Rattle.hack_decls.specs.declared.answers.HeadingAnswer.{HeadingAnswer}
use Rattle.hack_decls.specs.Names.{TypeIn, class_symbol}
use Rattle.hack_decls.specs.AskLaws.{looked_names, said}
use Rattle.hack_sub.proofs.Headings.{body_law, body_named}
use Rattle.hack_sub.specs.inside.Calls.{body_in}
use Rattle.hack_sub.specs.IsBelow.{small_only}
use Rattle.hack_sub.specs.Knowing.{expanded_by}
use Rattle.hack_sub.proofs.lookups.expanded_by.Goals as goal

pub returns : goal.returns
returns g c =
    let s = c.class_symbol.result in
    let here : s ≡ class_symbol c.args.name = c.class_symbol.ensures in
    let us = c.args.arguments.now in
    let h = c.in_ok-heading.heading in
    said c.in_ok-body.body
    (looked_names h (λ symbols h. All (TypeIn symbols) (types_of_heading_answer h))
    (λ symbols entry e. subst (λ (h : HeadingAnswer). All (TypeIn symbols) (types_of_heading_answer h)) (sym e) (in_heading_answer symbols ((g.D.Decls.state c.args.decls.now).map s) entry))
    c.in_ok-heading.ensures)
    (λ map e. c.in_ok-body.ensures ∙ ap (body_in us) e ∙ body_law us (map s) ∙ ap (λ (t : SymbolId). option_and_then small_only (expanded_by us (map t))) here)
    (λ symbols n. subst (λ (t : SymbolId). IsTrue (symbols t)) (sym here) n.0)
    (λ symbols n w. subst (λ (o : Option HackType). IfSome o (TypeIn symbols)) (sym c.in_ok-body.ensures) (body_named symbols us n.1 h w))
