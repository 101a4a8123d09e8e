use Rattle.std.proofs.Common.{◌≡◌, ◌-◌}
use Rattle.hack_parse_expr.specs.Parsers.{many_from}
use Rattle.hack_parse_decl.specs.Declarations.{bounds, bound, begins_bound}
use Rattle.hack_parse_decl.proofs.signature.bounds.Given as goal

abbrev pub invariant-loop-turn : goal.invariant-loop-turn
invariant-loop-turn l = bounds l.fn.cursor ≡ many_from begins_bound bound (l._turn-end - l._turn) l.found l.cursor
