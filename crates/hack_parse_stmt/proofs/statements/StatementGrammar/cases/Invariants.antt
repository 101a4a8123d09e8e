use Rattle.std.proofs.Common.{◌≡◌, ◌-◌}
use Rattle.hack_parse_expr.specs.Parsers.{many_from}
use Rattle.hack_parse_stmt.specs.Statements.{cases, case, statement, begins_case}
use Rattle.hack_parse_stmt.proofs.statements.StatementGrammar.cases.Given as goal

abbrev pub invariant-loop-turn : goal.invariant-loop-turn
invariant-loop-turn g l = cases l.self.depth (statement l.self.depth) l.fn.cursor ≡ many_from begins_case (case l.self.depth (statement l.self.depth)) (l._turn-end - l._turn) l.found l.cursor
