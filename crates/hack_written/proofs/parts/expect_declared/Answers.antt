use Rattle.std.proofs.Common.{◌≡◌, ◌∙◌, IsTrue, sym, ap, subst}
use Rattle.hack_types.specs.declared.ids.SymbolId.{SymbolId}
use Rattle.hack_decls.specs.AskLaws.{looked_names}
use Rattle.hack_decls.specs.NameLaws.{in_heading_answer}
use Rattle.hack_decls.specs.Names.{class_symbol}
use Rattle.hack_decls.specs.declared.answers.HeadingAnswer.{HeadingAnswer}
use Rattle.hack_rules.specs.Walks.{◌>>=◌, reads}
use Rattle.hack_rules.specs.WrittenTypes.{declared_by}
use Rattle.hack_written.specs.inside.Rows.{HeadingIn, expect_heading, mentions, names_in, setting_in}
use Rattle.hack_written.proofs.Headings.{heading_law}
use Rattle.hack_written.proofs.Walking.{asks_then}
use Rattle.hack_written.proofs.parts.expect_declared.Goals as goal

pub returns : goal.returns
unfolding ◌>>=◌ reads
returns g c =
    let around = c.args.around.now in let names = names_in around in let class = c.args.class.now in let traits = c.args.traits in
    let s = c.class_symbol.result in
    let here : s ≡ class_symbol class.name = c.class_symbol.ensures in
    let h = c.in_ok-heading.heading in
    asks_then _ c.expect_heading-done.result
    (looked_names h HeadingIn
    (λ symbols entry e. subst (HeadingIn symbols) (sym e) (in_heading_answer symbols ((g.D.Decls.state c.args.decls.now).map s) entry))
    c.in_ok-heading.ensures)
    c.expect_heading-done.ensures
    (λ m e. sym (ap (λ (h : HeadingAnswer). expect_heading names around.bounds class traits h (setting_in around) m c.args.state.now) e
    ∙ ap (λ f. f (setting_in around) m c.args.state.now) (heading_law names around.bounds class traits (m s))
    ∙ ap (λ (t : SymbolId). declared_by traits around.bounds class.at class.name (mentions names class.arguments) (m t) (setting_in around) m c.args.state.now) here))
    (λ symbols near n. subst (λ (t : SymbolId). IsTrue (symbols t)) (sym here) n.0)
    (λ symbols n w. (n.1, w))
    (λ symbols b n w v. tt)
