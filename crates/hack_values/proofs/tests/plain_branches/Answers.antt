use Rattle.hack_values.proofs.Testing.{plain_walks}
use Rattle.hack_values.proofs.tests.plain_branches.Goals as goal

pub returns : goal.returns
returns g c = plain_walks c.in_ok-both_here.field-0 c.in_ok-ty.ensures c.in_ok-both_here.ensures.when_true c.in_ok-both_here.ensures.when_false
