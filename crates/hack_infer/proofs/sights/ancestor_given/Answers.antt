use Rattle.std.proofs.Common.{◌≡◌, ◌∙◌, Option, IsTrue, IfSome, All, List, map, sym, ap, subst}
use Rattle.hack_types.specs.declared.hack_type.HackType.{HackType}
use Rattle.hack_types.specs.declared.ids.SymbolId.{SymbolId}
use Rattle.hack_decls.specs.AskLaws.{looked_names, said}
use Rattle.hack_decls.specs.NameLaws.{in_ancestor_answer, types_of_ancestor_answer}
use Rattle.hack_decls.specs.Names.{TypeIn, class_symbol}
use Rattle.hack_decls.specs.declared.answers.AncestorAnswer.{AncestorAnswer}
use Rattle.std.specs.Option.{option_map}
use Rattle.hack_sub.specs.Knowing.{ancestor_by}
use Rattle.hack_infer.proofs.SightLaws.{given_law, given_named}
use Rattle.hack_infer.specs.inside.Calls.{given_in}
use Rattle.hack_infer.specs.Seeing.{put_in}
use Rattle.hack_infer.proofs.sights.ancestor_given.Goals as goal

pub returns : goal.returns
returns g c =
    let s = c.class_symbol.result in
    let here : s ≡ class_symbol c.args.class = c.class_symbol.ensures in
    let us = c.args.arguments.now in
    let a = c.in_ok-answer.answer in
    said c.in_ok-given.given
    (looked_names a (λ symbols a. All (TypeIn symbols) (types_of_ancestor_answer a))
    (λ symbols entry e. subst (λ (a : AncestorAnswer). All (TypeIn symbols) (types_of_ancestor_answer a)) (sym e)
    (in_ancestor_answer symbols c.args.name ((g.D.Decls.state c.args.decls.now).map s) entry))
    c.in_ok-answer.ensures)
    (λ m e. c.in_ok-given.ensures ∙ ap (given_in us) e ∙ given_law us c.args.name (m s)
    ∙ ap (λ (t : SymbolId). option_map (map (put_in us)) (ancestor_by c.args.name (m t))) here)
    (λ symbols n. subst (λ (t : SymbolId). IsTrue (symbols t)) (sym here) n.0)
    (λ symbols n w. subst (λ (o : Option (List HackType)). IfSome o (All (TypeIn symbols))) (sym c.in_ok-given.ensures) (given_named symbols us n.1 a w))
