use Rattle.std.proofs.Common.{◌≡◌, true}
use Rattle.std.specs.FinSet.{contains}
use Rattle.phase_core.specs.Inside.{AllSoFar}
use Rattle.phase_core.proofs.image.has_all.Given as goal

abbrev pub invariant-loop-symbol : goal.invariant-loop-symbol
invariant-loop-symbol l = AllSoFar (λ s. contains l.set s ≡ true) l.symbols l.symbol-index
