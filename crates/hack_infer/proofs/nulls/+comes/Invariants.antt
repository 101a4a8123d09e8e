use Rattle.std.proofs.Common.{◌+◌, ◌*◌}
use Rattle.hack_infer.proofs.nulls.+comes.Given as goal

abbrev pub decreases-comes_to : goal.decreases-comes_to
decreases-comes_to g l = 2 * l.steps

abbrev pub decreases-coming_by : goal.decreases-coming_by
decreases-coming_by g l = 2 * l.steps + 1
