use Rattle.std.proofs.Common.{arith}
use Rattle.hack_values.proofs.Testing.{is_only, not_only}
use Rattle.hack_values.proofs.tests.only_is.Goals as goal

pub returns-then-tests-ne1 : goal.returns-then-tests-ne1
returns-then-tests-ne1 c = not_only c.args.tests.now (omega arith)

pub returns : goal.returns
returns c = is_only c.args.tests.now c.index-tests-0.result _ (omega arith) c.index-tests-0.is c.is_of.ensures
