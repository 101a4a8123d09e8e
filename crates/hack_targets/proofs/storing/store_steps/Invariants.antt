use Rattle.std.proofs.Common.{length}
use Rattle.hack_walk.specs.Checks.{setting_of}
use Rattle.hack_targets.specs.inside.Aims.{aim_of}
use Rattle.hack_targets.proofs.Inwards.{GoesOn}
use Rattle.hack_targets.proofs.storing.store_steps.Given as goal

abbrev pub invariant-loop-step : goal.invariant-loop-step
invariant-loop-step g l =
    GoesOn (setting_of l.fn.setting) l.fn.value_at (aim_of l.fn.root l.fn.steps.items) l.fn.new (g.D.Decls.state l.initial.decls) l.initial.state
    (aim_of l.fn.root l.left.items) l.made (g.D.Decls.state l.decls) l.state

abbrev pub decreases-loop-step : goal.decreases-loop-step
decreases-loop-step g l = length l.left.items
