use Rattle.std.proofs.Common.{◌≡◌, ◌-◌}
use Rattle.hack_parse_expr.specs.declared.rows.Nested.TheVariants as nested
use Rattle.hack_parse_expr.specs.Rows.{begins_expression}
use Rattle.hack_parse_expr.specs.Parsers.{list_from}
use Rattle.hack_parse_expr.specs.Expressions.{expressions1, nests}
use Rattle.hack_parse_expr.proofs.grammar.Grammar.expressions1.Given as goal

abbrev pub invariant-loop-turn : goal.invariant-loop-turn
invariant-loop-turn g l = expressions1 l.self.depth (nests l.self.depth) l.fn.cursor ≡ list_from begins_expression (nests l.self.depth nested.Expression) (l._turn-end - l._turn) l.found l.cursor
