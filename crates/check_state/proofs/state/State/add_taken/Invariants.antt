use Rattle.std.proofs.Common.{◌≡◌, ◌++◌}
use Rattle.hack_names.specs.Declarations.{losers}
use Rattle.check_state.specs.Inside.{taken_findings}
use Rattle.check_state.proofs.state.State.add_taken.Given as goal

abbrev pub invariant-loop-unit : goal.invariant-loop-unit
invariant-loop-unit l = l.list.items ++ taken_findings l.self.names l.unit-iterator.rest.items ≡ l.fn.list.items ++ taken_findings l.self.names (losers l.self.table)
