use Rattle.std.proofs.Common.{◌≡◌, ◌-◌}
use Rattle.hack_parse_expr.specs.Rows.{begins_expression}
use Rattle.hack_parse_expr.specs.Parsers.{list_from}
use Rattle.hack_parse_expr.specs.Expressions.{entries, nests, entry}
use Rattle.hack_parse_expr.proofs.grammar.Grammar.entries.Given as goal

abbrev pub invariant-loop-turn : goal.invariant-loop-turn
invariant-loop-turn g l = entries l.self.depth (nests l.self.depth) l.fn.cursor ≡ list_from begins_expression (entry l.self.depth (nests l.self.depth)) (l._turn-end - l._turn) l.found l.cursor
