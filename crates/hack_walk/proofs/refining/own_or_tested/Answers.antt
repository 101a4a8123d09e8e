use Rattle.std.proofs.Common.{◌∙◌, cond, sym, ap, subst}
use Rattle.hack_decls.specs.AskLaws.{said}
use Rattle.hack_decls.specs.Names.{TypeIn}
use Rattle.hack_walk.proofs.Refinements.{in_chosen}
use Rattle.hack_walk.proofs.refining.own_or_tested.Goals as goal

pub returns : goal.returns
returns g c = let T = c.args.tested.now in let own = c.args.own.now in
    said _ c.in_ok-within.ensures
    (λ m e. c.in_ok-copy.ensures ∙ c.one_of.ensures ∙ ap (λ b. cond b own T) e)
    (λ symbols n. record { around = n.around; lower = n.upper; upper = n.lower })
    (λ symbols n given. subst (TypeIn symbols) (sym (c.in_ok-copy.ensures ∙ c.one_of.ensures)) (in_chosen symbols c.in_ok-within.within own T n.upper n.lower))
