use Rattle.std.proofs.Common.{◌≡◌, ◌-◌}
use Rattle.hack_parse_expr.specs.Parsers.{many_from}
use Rattle.hack_parse_expr.specs.Expressions.{type_tests, begins_test, type_test, nests}
use Rattle.hack_parse_expr.proofs.grammar.Grammar.type_tests.Given as goal

abbrev pub invariant-loop-turn : goal.invariant-loop-turn
invariant-loop-turn g l = type_tests l.self.depth (nests l.self.depth) l.fn.cursor ≡ many_from begins_test (type_test l.self.depth (nests l.self.depth)) (l._turn-end - l._turn) l.found l.cursor
