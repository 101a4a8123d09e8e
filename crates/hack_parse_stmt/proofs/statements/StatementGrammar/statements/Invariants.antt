use Rattle.std.proofs.Common.{◌≡◌, ◌-◌}
use Rattle.hack_parse_expr.specs.Parsers.{many_from}
use Rattle.hack_parse_stmt.specs.Statements.{statements, statement, begins_statement}
use Rattle.hack_parse_stmt.proofs.statements.StatementGrammar.statements.Given as goal

abbrev pub invariant-loop-turn : goal.invariant-loop-turn
invariant-loop-turn g l = statements l.self.depth (statement l.self.depth) l.fn.cursor ≡ many_from begins_statement (statement l.self.depth) (l._turn-end - l._turn) l.found l.cursor
