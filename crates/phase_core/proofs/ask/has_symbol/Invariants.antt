use Rattle.std.proofs.Common.{◌≡◌}
use Rattle.phase_core.specs.Inside.{NoneSoFar}
use Rattle.phase_core.proofs.ask.has_symbol.Given as goal

abbrev pub invariant-loop-other : goal.invariant-loop-other
invariant-loop-other l = NoneSoFar (λ x. x ≡ l.symbol) l.symbols l.other-index
