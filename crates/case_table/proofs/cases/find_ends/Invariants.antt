use Rattle.std.proofs.Common.{◌≡◌, ◌≤◌, drop, length}
use Rattle.case_table.specs.Cases.{words}
use Rattle.case_table.specs.Places.{ArePlaced, start_of}
use Rattle.case_table.proofs.Words.{words_from}
use Rattle.case_table.proofs.cases.find_ends.Given as goal

abbrev pub invariant-loop-i : goal.invariant-loop-i
invariant-loop-i l = record {
  rest : drop l.i (words l.bytes) ≡ words_from l.bytes l.from;
  placed : ArePlaced l.bytes l.ends l.i;
  start : l.from ≡ start_of l.ends l.i;
  count : l.i ≤ length (words l.bytes);
}
