use Rattle.std.proofs.Common.{◌≡◌, ◌+◌, ◌-◌}
use Rattle.hack_parse_expr.specs.Parsers.{many_from}
use Rattle.hack_parse_expr.specs.Expressions.{operations, operand, further, begins_operator, nests}
use Rattle.hack_parse_expr.proofs.Levels.{calls_left}
use Rattle.hack_parse_expr.proofs.grammar.Grammar.+levels.Given as goal

abbrev pub decreases-level : goal.decreases-level
decreases-level g l = calls_left l.level + 2

abbrev pub decreases-operand : goal.decreases-operand
decreases-operand g l = calls_left l.level

abbrev pub decreases-operations : goal.decreases-operations
decreases-operations g l = calls_left l.level + 1

abbrev pub invariant-operations-loop-turn : goal.invariant-operations-loop-turn
invariant-operations-loop-turn g l =
    operations l.self.depth (nests l.self.depth) l.level (operand l.self.depth (nests l.self.depth) l.level) l.fn.cursor
    ≡ many_from (begins_operator l.level) (further l.self.depth (nests l.self.depth) l.level (operand l.self.depth (nests l.self.depth) l.level)) (l._turn-end - l._turn) l.found l.cursor
