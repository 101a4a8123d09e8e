use Rattle.std.proofs.Common.{◌≡◌, ◌∙◌, IsTrue, All, sym, ap, subst}
use Rattle.hack_types.specs.declared.ids.SymbolId.{SymbolId}
use Rattle.hack_decls.specs.AskLaws.{looked_names, said}
use Rattle.hack_decls.specs.NameLaws.{in_heading_answer, types_of_heading_answer}
use Rattle.hack_decls.specs.Names.{TypeIn, class_symbol}
use Rattle.hack_decls.specs.declared.answers.HeadingAnswer.{HeadingAnswer}
use Rattle.hack_infer.proofs.SightLaws.{sight_law, sight_named}
use Rattle.hack_infer.specs.inside.Calls.{looked_at, sight_in}
use Rattle.hack_infer.specs.Named.{SightIn}
use Rattle.hack_infer.specs.declared.sight.Sight.{Sight}
use Rattle.hack_infer.proofs.sights.looked_at.Goals as goal

pub returns : goal.returns
returns g c =
    let s = c.class_symbol.result in
    let here : s ≡ class_symbol c.args.name = c.class_symbol.ensures in
    let us = c.args.arguments.now in
    let h = c.in_ok-heading.heading in
    said c.in_ok-sight.sight
    (looked_names h (λ symbols h. All (TypeIn symbols) (types_of_heading_answer h))
    (λ symbols entry e. subst (λ (h : HeadingAnswer). All (TypeIn symbols) (types_of_heading_answer h)) (sym e) (in_heading_answer symbols ((g.D.Decls.state c.args.decls.now).map s) entry))
    c.in_ok-heading.ensures)
    (λ map e. c.in_ok-sight.ensures ∙ ap (sight_in us) e ∙ sight_law us (map s) ∙ ap (λ (t : SymbolId). looked_at us (map t)) here)
    (λ symbols n. subst (λ (t : SymbolId). IsTrue (symbols t)) (sym here) n.0)
    (λ symbols n w. subst (λ (o : Sight). SightIn symbols o) (sym c.in_ok-sight.ensures) (sight_named symbols us n.1 h w))
