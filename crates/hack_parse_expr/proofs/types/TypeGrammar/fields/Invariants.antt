use Rattle.std.proofs.Common.{◌≡◌, ◌-◌}
use Rattle.hack_parse_expr.specs.Types.{fields, fields_from, written_type}
use Rattle.hack_parse_expr.proofs.types.TypeGrammar.fields.Given as goal

abbrev pub invariant-loop-turn : goal.invariant-loop-turn
invariant-loop-turn g l = fields (written_type l.self.depth) l.fn.cursor ≡ fields_from (written_type l.self.depth) (l._turn-end - l._turn) l.found l.cursor
