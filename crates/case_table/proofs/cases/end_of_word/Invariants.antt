use Rattle.std.proofs.Common.{length, drop, ◌-◌, ◌+◌, ◌≤◌, ◌≡◌}
use Rattle.std.specs.List.{prefix_len}
use Rattle.case_table.specs.Places.{is_not_space}
use Rattle.case_table.proofs.cases.end_of_word.Given as goal

abbrev pub invariant-loop-at : goal.invariant-loop-at
invariant-loop-at l = record {
  inside : l.at ≤ length l.bytes;
  rest : l.from + prefix_len is_not_space (drop l.from l.bytes) ≡ l.at + prefix_len is_not_space (drop l.at l.bytes);
}

abbrev pub decreases-loop-at : goal.decreases-loop-at
decreases-loop-at l = length l.bytes - l.at
