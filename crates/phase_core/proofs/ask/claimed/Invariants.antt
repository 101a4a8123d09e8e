use Rattle.std.proofs.Common.{◌≡◌, true}
use Rattle.phase_core.specs.Picked.{Picked}
use Rattle.std.specs.FinMap as finite
use Rattle.phase_core.specs.States.{is_claimed}
use Rattle.phase_core.proofs.ask.claimed.Given as goal

abbrev pub invariant-loop-symbol : goal.invariant-loop-symbol
invariant-loop-symbol l = Picked (λ s. s) (λ s. is_claimed (finite.get l.records s) ≡ true) l.symbol-items l.symbol-index l.set
