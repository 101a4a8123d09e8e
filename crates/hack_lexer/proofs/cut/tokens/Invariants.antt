use Rattle.std.proofs.Common.{◌≤◌, ◌-◌, length}
use Rattle.hack_lexer.proofs.Cuts.{IsSoFar}
use Rattle.hack_lexer.proofs.cut.tokens.Given as goal

abbrev pub invariant-loop-at : goal.invariant-loop-at
invariant-loop-at l = record {
  inside : l.at ≤ length l.bytes;
  so_far : IsSoFar l.bytes l.at l.tokens.items;
}

abbrev pub decreases-loop-at : goal.decreases-loop-at
decreases-loop-at l = length l.bytes - l.at
