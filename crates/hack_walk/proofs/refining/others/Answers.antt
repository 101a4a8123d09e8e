use Rattle.std.proofs.Common.{◌∙◌, sym, ap, subst}
use Rattle.hack_decls.specs.AskLaws.{unasked}
use Rattle.hack_decls.specs.Names.{TypeIn}
use Rattle.hack_sub.specs.NamesOf.{in_union}
use Rattle.hack_walk.specs.WalkLaws.{restated}
use Rattle.hack_walk.specs.inside.Calls.{others_in}
use Rattle.hack_walk.proofs.refining.others.Goals as goal

pub returns-in-Some : goal.returns-in-Some
returns-in-Some g c = let T = c.args.tested.now in let own = c.args.own.now in
    restated c.members_apart.result c.members_apart.ensures
    (λ m a e. e ∙ ap (λ o. others_in m c.args.scope.now own T o) c.in-Some.ensures)
    (λ symbols n. record { around = n.around; many = in_union symbols own c.in-Some.members.now c.in-Some.ensures n.upper; other = n.lower })
    (λ symbols a n given. given)

pub returns-in_ok-copy-in-None : goal.returns-in_ok-copy-in-None
returns-in_ok-copy-in-None g c = let T = c.args.tested.now in let own = c.args.own.now in
    unasked _ _ (λ m. c.in_ok-copy-in-None.ensures ∙ ap (λ o. others_in m c.args.scope.now own T o) c.in-None.ensures)
    (λ symbols n. subst (TypeIn symbols) (sym c.in_ok-copy-in-None.ensures) n.upper)
