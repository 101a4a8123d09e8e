use Rattle.std.specs.List.{AllAdjacentBelow}
use Rattle.case_table.specs.Cases.{words, IsBelow}
use Rattle.case_table.proofs.cases.rises.Given as goal

abbrev pub invariant-loop-i : goal.invariant-loop-i
invariant-loop-i l = AllAdjacentBelow IsBelow (words l.bytes) l.i
