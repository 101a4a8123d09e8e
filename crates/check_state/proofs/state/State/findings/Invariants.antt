use Rattle.std.proofs.Common.{◌≡◌, ◌++◌}
use Rattle.check_state.specs.Inside.{kept_findings}
use Rattle.check_state.proofs.state.State.findings.Given as goal

abbrev pub invariant-loop-name : goal.invariant-loop-name
invariant-loop-name l = l.list.items ++ kept_findings l.self l.name-iterator ≡ kept_findings l.self l.self.files.entries
