use Rattle.std.specs.Prelude.{Contains}
use Rattle.phase_core.specs.Inside.{AllSoFar}
use Rattle.phase_core.proofs.ask.has_symbols.Given as goal

abbrev pub invariant-loop-symbol : goal.invariant-loop-symbol
invariant-loop-symbol l = AllSoFar (λ s. Contains l.those s) l.these l.symbol-index
