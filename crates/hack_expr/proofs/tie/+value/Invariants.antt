use Rattle.std.proofs.Common.{◌+◌, ◌*◌}
use Rattle.hack_expr.proofs.tie.+value.Given as goal

abbrev pub decreases-value : goal.decreases-value
decreases-value g l = 3 * goal.size-value g l

abbrev pub decreases-branches_of : goal.decreases-branches_of
decreases-branches_of g l = 3 * goal.size-branches_of g l + 1

abbrev pub decreases-target_of : goal.decreases-target_of
decreases-target_of g l = 3 * goal.size-target_of g l + 1
