use Rattle.std.proofs.Common.{◌≡◌, ◌++◌, drop}
use Rattle.check_state.specs.Stands.{heads_from}
use Rattle.check_state.proofs.file.heads.Given as goal

abbrev pub invariant-loop-unit : goal.invariant-loop-unit
invariant-loop-unit l = l.heads.items ++ heads_from l.index (drop l.unit-index l.units) ≡ heads_from 0 l.units
