use Rattle.std.proofs.Common.{◌≡◌, ◌-◌}
use Rattle.hack_parse_expr.specs.Expressions.{powers, powers_from, nests}
use Rattle.hack_parse_expr.proofs.grammar.Grammar.powers.Given as goal

abbrev pub invariant-loop-turn : goal.invariant-loop-turn
invariant-loop-turn g l = powers l.self.depth (nests l.self.depth) l.fn.first l.fn.cursor ≡ powers_from l.self.depth (nests l.self.depth) (l._turn-end - l._turn) l.found l.cursor
