use Rattle.std.proofs.Common.{length, drop, ◌-◌, ◌+◌, ◌≤◌, ◌≡◌}
use Rattle.std.specs.List.{prefix_len}
use Rattle.hack_lexer.specs.Scan.{is_in}
use Rattle.hack_lexer.proofs.run.run_len.Given as goal

abbrev pub invariant-loop-n : goal.invariant-loop-n
invariant-loop-n l = record {
  inside : l.n ≤ length l.bytes;
  rest : prefix_len (is_in l.class) l.bytes ≡ l.n + prefix_len (is_in l.class) (drop l.n l.bytes);
}

abbrev pub decreases-loop-n : goal.decreases-loop-n
decreases-loop-n l = length l.bytes - l.n
