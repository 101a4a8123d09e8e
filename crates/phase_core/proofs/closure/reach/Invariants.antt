use Rattle.std.proofs.Common.{◌-◌, ◌^◌}
use Rattle.phase_core.specs.Reached.{Reaching}
use Rattle.phase_core.proofs.closure.reach.Given as goal

abbrev pub invariant-loop-at : goal.invariant-loop-at
invariant-loop-at g l = Reaching (g.L.Links.leads l.links) l.starts l.at l.reached

abbrev pub decreases-loop-at : goal.decreases-loop-at
decreases-loop-at g l = 2 ^ 64 - l.at
