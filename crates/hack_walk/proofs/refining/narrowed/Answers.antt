use Rattle.std.proofs.Common.{◌∙◌, sym, subst}
use Rattle.hack_decls.specs.AskLaws.{said, then}
use Rattle.hack_decls.specs.Names.{TypeIn}
use Rattle.hack_walk.proofs.Refinements.{narrowed_else, narrowed_to}
use Rattle.hack_walk.proofs.refining.narrowed.Goals as goal

pub returns-then-within : goal.returns-then-within
returns-then-within g c =
    said _ c.in_ok-within.ensures
    (λ m e. c.in_ok-copy.ensures ∙ sym (narrowed_to m c.args.scope.now c.args.tested.now c.args.own.now (sym e ∙ c.if-within.true)))
    (λ symbols n. n) (λ symbols n given. subst (TypeIn symbols) (sym c.in_ok-copy.ensures) n.lower)

pub returns : goal.returns
returns g c =
    then c.own_or_tested.result c.in_ok-within.ensures c.own_or_tested.ensures
    (λ m a e there. there ∙ sym (narrowed_else m c.args.scope.now c.args.tested.now c.args.own.now (sym e ∙ c.if-within.false)))
    (λ symbols n. n) (λ symbols n given. n) (λ symbols a n given there. there)
