use Rattle.std.proofs.Common.{◌∙◌, ap, List, subst, sym, All}
use Rattle.hack_decls.specs.Names.{TypeIn}
use Rattle.hack_infer.specs.Seeing.{ancestor_given}
use Rattle.hack_types.specs.declared.hack_type.HackType.{HackType}
use Rattle.hack_walk.specs.WalkLaws.{restated}
use Rattle.hack_flow.proofs.Foreaching.{other_given}
use Rattle.hack_flow.proofs.foreach_types.given.Goals as goal

pub returns : goal.returns
returns g c =
    let class = c.args.class in let name = c.args.name in let own = c.args.arguments.now in
    restated c.ancestor_given.result c.ancestor_given.ensures
    (λ m a is. is ∙ ap (λ (l : List HackType). ancestor_given m class l name) c.as_slice.ensures ∙ sym (other_given m class name own (sym c.eq.ensures ∙ c.if-eq.false)))
    (λ symbols n. (n.0, subst (All (TypeIn symbols)) (sym c.as_slice.ensures) n.1)) (λ symbols a n h. h)
