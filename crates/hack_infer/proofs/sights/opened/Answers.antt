use Rattle.std.proofs.Common.{◌∙◌, Option, IfSome, sym, ap, subst}
use Rattle.hack_types.specs.declared.hack_type.HackType.{HackType}
use Rattle.hack_decls.specs.AskLaws.{said}
use Rattle.hack_decls.specs.Names.{TypeIn}
use Rattle.hack_sub.specs.Knowing.{is_bad, known}
use Rattle.hack_infer.proofs.SightLaws.{next_law, next_named}
use Rattle.hack_infer.specs.inside.Calls.{next_of}
use Rattle.hack_infer.specs.Seeing.{opened}
use Rattle.hack_infer.proofs.sights.opened.Goals as goal

pub returns : goal.returns
returns g c =
    let T = c.args.ty.now in
    said c.next_of.result c.in_ok-sight.ensures
    (λ m e. c.next_of.ensures ∙ ap next_of e ∙ next_law (is_bad (known m T)) (opened m T))
    (λ symbols n. n)
    (λ symbols n given. subst (λ (o : Option HackType). IfSome o (TypeIn symbols)) (sym c.next_of.ensures) (next_named symbols c.in_ok-sight.sight given))
