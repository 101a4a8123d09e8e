use Rattle.std.proofs.Common.{◌∙◌, Option, IfSome, ap, subst, sym}
use Rattle.hack_types.specs.declared.hack_type.HackType.{HackType}
use Rattle.hack_decls.specs.AskLaws.{looked_names, said}
use Rattle.hack_decls.specs.Names.{TypeIn}
use Rattle.hack_values.specs.inside.Rows.{constant_in}
use Rattle.hack_values.proofs.Declared.{heading_law, in_heading}
use Rattle.hack_values.proofs.constants.declared.Goals as goal

pub returns : goal.returns
returns g c =
    let is = c.constant_in.ensures in
    said c.constant_in.result
    (looked_names c.in_ok-heading.heading (λ symbols h. IfSome (constant_in h) (TypeIn symbols)) (λ symbols entry e. in_heading symbols _ _ entry e) c.in_ok-heading.ensures)
    (λ map e. is ∙ ap constant_in e ∙ heading_law (map _)) (λ symbols n. n)
    (λ symbols n w. subst (λ (o : Option HackType). IfSome o (TypeIn symbols)) (sym is) w)
