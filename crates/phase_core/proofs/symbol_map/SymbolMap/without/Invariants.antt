use Rattle.phase_core.specs.Inside.{CopiedSoFar}
use Rattle.phase_core.proofs.symbol_map.SymbolMap.without.Given as goal

abbrev pub invariant-loop-symbol : goal.invariant-loop-symbol
invariant-loop-symbol g l = CopiedSoFar l.self l.gone l.symbol-items l.symbol-index l.rest
