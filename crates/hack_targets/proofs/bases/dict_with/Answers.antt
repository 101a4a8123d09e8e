use Rattle.std.proofs.Common.{Option, Ok, ap, subst, IfSome}
use Rattle.hack_rules.specs.Indices.{dict_with}
use Rattle.hack_rules.specs.Meanings.{Index}
use Rattle.hack_types.specs.declared.hack_type.HackType.TheVariants.{Dict}
use Rattle.hack_walk.specs.WalkLaws.{of_step, weaker}
use Rattle.hack_targets.specs.AimIn.{IndexIn}
use Rattle.hack_targets.specs.inside.Pieces.{dict_at}
use Rattle.hack_targets.proofs.Stepping.{steps_more, walks_same}
use Rattle.hack_targets.proofs.bases.dict_with.Goals as goal

pub returns-in-Some : goal.returns-in-Some
unfolding dict_with dict_at
returns-in-Some g c =
    let key = c.args.key in let value = c.args.value in
    walks_same _ c.dict_at.result (ap (λ (index : Option Index). dict_with c.args.at (Dict key value) key value c.args.new index) c.in-Some.is)
    (weaker c.dict_at.result c.dict_at.ensures (λ symbols n. (n.key, n.value, subst (λ (index : Option Index). IfSome index (IndexIn symbols)) c.in-Some.is n.index, n.new))
    (λ symbols a n h. h))

pub returns-in_ok-refuse_base-in-None : goal.returns-in_ok-refuse_base-in-None
unfolding dict_with
returns-in_ok-refuse_base-in-None g c =
    let key = c.args.key in let value = c.args.value in
    walks_same _ (Ok _) (ap (λ (index : Option Index). dict_with c.args.at (Dict key value) key value c.args.new index) c.in-None.is)
    (of_step _ (steps_more (Ok _) c.in_ok-refuse_base-in-None.ensures (λ symbols n. tt)))
