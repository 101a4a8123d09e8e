use Rattle.std.proofs.Common.{◌∙◌, Option, IfSome, ap, subst, sym}
use Rattle.hack_decls.specs.AskLaws.{looked_names, said}
use Rattle.hack_written.specs.Within.{ParamsIn}
use Rattle.hack_calls.specs.declared.mentions.Declared.{Declared}
use Rattle.hack_calls.specs.inside.Rows.{declared_in}
use Rattle.hack_calls.proofs.Heading.{declared_law, in_mention}
use Rattle.hack_calls.proofs.mentions.declared_under.Goals as goal

pub returns : goal.returns
returns g c =
    let is = c.declared_in.ensures in
    said c.declared_in.result
    (looked_names c.in_ok-heading.heading (λ symbols h. IfSome (declared_in h) (λ (declared : Declared). ParamsIn symbols declared.type_params))
    (λ symbols entry e. in_mention symbols c.in_ok-heading.heading _ entry e) c.in_ok-heading.ensures)
    (λ map e. is ∙ ap declared_in e ∙ declared_law (map _)) (λ symbols n. n)
    (λ symbols n w. subst (λ (o : Option Declared). IfSome o (λ (declared : Declared). ParamsIn symbols declared.type_params)) (sym is) w)
