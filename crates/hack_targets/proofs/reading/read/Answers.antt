use Rattle.std.proofs.Common.{◌∙◌, ◌-◌, Ok, length, take, ap, subst}
use Rattle.hack_rules.specs.Meanings.{Aim}
use Rattle.hack_rules.specs.Targets.{read}
use Rattle.hack_walk.specs.WalkLaws.{of_step, weaker}
use Rattle.hack_targets.specs.AimIn.{AimIn}
use Rattle.hack_targets.specs.inside.Aims.{aim_of}
use Rattle.hack_targets.proofs.Inwards.{last_is, root_read}
use Rattle.hack_targets.proofs.Last.{last_there, none_there}
use Rattle.hack_targets.proofs.Stepping.{steps_more, walks_same}
use Rattle.hack_targets.proofs.reading.read.Goals as goal

pub returns-in-Some : goal.returns-in-Some
unfolding read
returns-in-Some g c =
    let root = c.parts.result.0.now in let steps = c.parts.result.1.now in let step = c.in-Some.step.now in
    let whole = c.parts.ensures ∙ last_is root (take (length steps - 1) steps) step steps (last_there steps step c.in-Some.ensures.value) in
    walks_same _ c.element.result (ap (λ (aim : Aim). read c.args.left aim) whole)
    (weaker c.element.result c.element.ensures (λ symbols n. let here = subst (AimIn symbols) whole n in (here.1, here.2)) (λ symbols a n h. h))

pub returns-in_ok-read_root-in-None : goal.returns-in_ok-read_root-in-None
returns-in_ok-read_root-in-None g c =
    let root = c.parts.result.0.now in
    let whole = c.parts.ensures ∙ ap (aim_of root) (none_there c.parts.result.1.now c.in-None.ensures.value) in
    walks_same _ (Ok _) (ap (λ (aim : Aim). read c.args.left aim) whole ∙ root_read c.args.left root)
    (of_step _ (steps_more (Ok _) c.in_ok-read_root-in-None.ensures (λ symbols n. subst (AimIn symbols) whole n)))
