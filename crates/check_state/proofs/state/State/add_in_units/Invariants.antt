use Rattle.std.proofs.Common.{◌≡◌, ◌++◌, drop}
use Rattle.check_state.specs.Inside.{unit_findings}
use Rattle.check_state.proofs.state.State.add_in_units.Given as goal

abbrev pub invariant-loop-index : goal.invariant-loop-index
invariant-loop-index l = l.list.items ++ unit_findings l.self l.name l.index (drop l.index l.units) ≡ l.fn.list.items ++ unit_findings l.self l.name 0 l.units
