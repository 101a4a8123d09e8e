use Rattle.std.proofs.Common.{Ok, ap}
use Rattle.hack_rules.specs.Targets.{store}
use Rattle.hack_walk.specs.WalkLaws.{of_step}
use Rattle.hack_targets.specs.declared.steps.Root.{Root}
use Rattle.hack_targets.specs.inside.Aims.{root_aim}
use Rattle.hack_targets.proofs.Stepping.{steps_more, walks_same}
use Rattle.hack_targets.proofs.storing.store_made.Goals as goal

pub returns-in_ok-assign-in-Variable : goal.returns-in_ok-assign-in-Variable
unfolding store
returns-in_ok-assign-in-Variable g c =
    walks_same _ (Ok tt) (ap (λ (root : Root). store c.args.value_at (root_aim root) c.args.made) c.in-Variable.is)
    (of_step _ (steps_more (Ok tt) c.in_ok-assign-in-Variable.ensures (λ symbols n. n.1)))
