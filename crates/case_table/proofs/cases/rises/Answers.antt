use Rattle.std.proofs.Common.{arith}
use Rattle.case_table.specs.Cases.{words}
use Rattle.case_table.proofs.Words.{rising_pairs}
use Rattle.case_table.proofs.cases.rises.Goals as goal

pub returns-clause-yes : goal.returns-clause-yes
returns-clause-yes c = rising_pairs (words c.args.bytes.now) (λ k d h. c.loop-i.invariant k d (omega arith))
