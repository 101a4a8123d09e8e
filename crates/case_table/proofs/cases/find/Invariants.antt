use Rattle.std.proofs.Common.{◌≡◌, ◌<◌, ◌≤◌, ◌-◌, ℕ, length, get_or, []}
use Rattle.case_table.specs.Cases.{words}
use Rattle.case_table.proofs.cases.find.Given as goal

abbrev pub invariant-loop-low : goal.invariant-loop-low
invariant-loop-low l = record {
  order : l.low ≤ l.high;
  inside : l.high ≤ length l.ends;
  below : (k : ℕ) → k < l.low → get_or (words l.bytes) k [] ≡ l.key → ⊥;
  above : (k : ℕ) → l.high ≤ k → k < length l.ends → get_or (words l.bytes) k [] ≡ l.key → ⊥;
}

abbrev pub decreases-loop-low : goal.decreases-loop-low
decreases-loop-low l = l.high - l.low
