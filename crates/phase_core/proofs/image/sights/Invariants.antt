use Rattle.phase_core.specs.Inside.{Imaged}
use Rattle.phase_core.proofs.image.sights.Given as goal

abbrev pub invariant-loop-symbol : goal.invariant-loop-symbol
invariant-loop-symbol l = Imaged l.world l.symbols l.symbol-index l.image
