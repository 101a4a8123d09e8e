use Rattle.std.proofs.Common.{◌≡◌, ◌-◌}
use Rattle.hack_parse_expr.specs.Parsers.{many_from}
use Rattle.hack_parse_expr.specs.Expressions.{suffixes, begins_suffix, suffix, nests}
use Rattle.hack_parse_expr.proofs.grammar.Grammar.suffixes.Given as goal

abbrev pub invariant-loop-turn : goal.invariant-loop-turn
invariant-loop-turn g l = suffixes l.self.depth (nests l.self.depth) l.fn.cursor ≡ many_from begins_suffix (suffix l.self.depth (nests l.self.depth)) (l._turn-end - l._turn) l.found l.cursor
