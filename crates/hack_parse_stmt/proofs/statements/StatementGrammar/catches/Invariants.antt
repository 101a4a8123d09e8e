use Rattle.std.proofs.Common.{◌≡◌, ◌-◌}
use Rattle.hack_lexer.specs.declared.kind.Keyword.TheVariants.{Catch}
use Rattle.hack_parse_expr.specs.Rows.{sees}
use Rattle.hack_parse_expr.specs.Symbols.{Keyword_}
use Rattle.hack_parse_expr.specs.Parsers.{many_from}
use Rattle.hack_parse_stmt.specs.Statements.{catches, catch, statement}
use Rattle.hack_parse_stmt.proofs.statements.StatementGrammar.catches.Given as goal

abbrev pub invariant-loop-turn : goal.invariant-loop-turn
invariant-loop-turn g l = catches l.self.depth (statement l.self.depth) l.fn.cursor ≡ many_from (sees (Keyword_ Catch)) (catch l.self.depth (statement l.self.depth)) (l._turn-end - l._turn) l.found l.cursor
