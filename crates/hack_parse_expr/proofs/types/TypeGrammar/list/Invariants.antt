use Rattle.std.proofs.Common.{◌≡◌, ◌-◌}
use Rattle.hack_parse_expr.specs.Parsers.{list_from}
use Rattle.hack_parse_expr.specs.Types.{list1, begins_type, written_type}
use Rattle.hack_parse_expr.proofs.types.TypeGrammar.list.Given as goal

abbrev pub invariant-loop-turn : goal.invariant-loop-turn
invariant-loop-turn g l = list1 (written_type l.self.depth) l.fn.cursor ≡ list_from begins_type (written_type l.self.depth) (l._turn-end - l._turn) l.found l.cursor
