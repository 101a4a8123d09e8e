use Rattle.std.proofs.Common.{◌≡◌, ◌-◌}
use Rattle.hack_parse_expr.specs.Rows.{sees}
use Rattle.hack_parse_expr.specs.Symbols.{KeyText}
use Rattle.hack_parse_expr.specs.Parsers.{list_from}
use Rattle.hack_parse_expr.specs.Expressions.{field_values, nests, field_value}
use Rattle.hack_parse_expr.proofs.grammar.Grammar.field_values.Given as goal

abbrev pub invariant-loop-turn : goal.invariant-loop-turn
invariant-loop-turn g l = field_values l.self.depth (nests l.self.depth) l.fn.cursor ≡ list_from (sees KeyText) (field_value l.self.depth (nests l.self.depth)) (l._turn-end - l._turn) l.found l.cursor
