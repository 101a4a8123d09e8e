use Rattle.std.proofs.Common.{take}
use Rattle.phase_core.specs.Reached.{Added}
use Rattle.phase_core.proofs.closure.Reached.add.Given as goal

abbrev pub invariant-loop-symbol : goal.invariant-loop-symbol
invariant-loop-symbol l = Added l.initial.self (take l.symbol-index l.symbols) l.self
