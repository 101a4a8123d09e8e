use Rattle.std.proofs.Common.{◌∙◌, Ok, ap, sym, subst}
use Rattle.hack_rules.specs.Meanings.{Aim}
use Rattle.hack_rules.specs.Targets.{read}
use Rattle.hack_walk.specs.WalkLaws.{of_step, weaker}
use Rattle.hack_targets.specs.AimIn.{AimIn}
use Rattle.hack_targets.specs.inside.Aims.{aim_of}
use Rattle.hack_targets.proofs.Inwards.{last_is, root_read}
use Rattle.hack_targets.proofs.Last.{none_left}
use Rattle.hack_targets.proofs.Stepping.{steps_more, walks_same}
use Rattle.hack_targets.proofs.reading.into_value.Goals as goal

pub returns-in-Some : goal.returns-in-Some
unfolding read
returns-in-Some g c =
    let root = c.into_parts-root.result.0 in let steps = c.into_parts-root.result.1.items in let step = c.in-Some.step in
    let whole = c.into_parts-root.ensures ∙ last_is root c.pop.new.self.items step steps c.in-Some.ensures.items in
    walks_same _ c.element_of.result (ap (λ (aim : Aim). read c.args.left aim) whole)
    (weaker c.element_of.result c.element_of.ensures (λ symbols n. let here = subst (AimIn symbols) whole n in (here.1, here.2)) (λ symbols a n h. h))

pub returns-in_ok-root_value-in-None : goal.returns-in_ok-root_value-in-None
returns-in_ok-root_value-in-None g c =
    let root = c.into_parts-root.result.0 in let steps = c.into_parts-root.result.1 in
    let whole = c.into_parts-root.ensures ∙ ap (aim_of root) (none_left steps.items (sym steps.ok.0 ∙ c.in-None.ensures.cases.0)) in
    walks_same _ (Ok _) (ap (λ (aim : Aim). read c.args.left aim) whole ∙ root_read c.args.left root)
    (of_step _ (steps_more (Ok _) c.in_ok-root_value-in-None.ensures (λ symbols n. subst (AimIn symbols) whole n)))
