use Rattle.std.proofs.Common.{Option, Ok, ap}
use Rattle.hack_rules.specs.Indices.{keyset_with}
use Rattle.hack_rules.specs.Meanings.{Index}
use Rattle.hack_types.specs.declared.hack_type.HackType.TheVariants.{Keyset}
use Rattle.hack_walk.specs.WalkLaws.{of_step}
use Rattle.hack_targets.specs.inside.Pieces.{keyset_behind}
use Rattle.hack_targets.proofs.Stepping.{steps_more, walks_same}
use Rattle.hack_targets.proofs.bases.keyset_with.Goals as goal

pub returns-in_ok-refuse_base-in-Some : goal.returns-in_ok-refuse_base-in-Some
unfolding keyset_with
returns-in_ok-refuse_base-in-Some g c =
    let item = c.args.item in
    walks_same _ (Ok _) (ap (λ (index : Option Index). keyset_with c.args.at c.args.value_at (Keyset item) item c.args.new index) c.in-Some.is)
    (of_step _ (steps_more (Ok _) c.in_ok-refuse_base-in-Some.ensures (λ symbols n. tt)))

pub returns-in-None : goal.returns-in-None
unfolding keyset_with keyset_behind
returns-in-None g c =
    let item = c.args.item in
    walks_same _ c.keyset_behind.result (ap (λ (index : Option Index). keyset_with c.args.at c.args.value_at (Keyset item) item c.args.new index) c.in-None.is) c.keyset_behind.ensures
