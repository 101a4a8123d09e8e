use Rattle.std.proofs.Common.{◌≡◌, ◌-◌}
use Rattle.hack_parse_expr.specs.Rows.{begins_declaration}
use Rattle.hack_parse_expr.specs.Parsers.{many_from}
use Rattle.hack_parse_file.specs.Files.{units, unit_read}
use Rattle.hack_parse_file.proofs.file.units.Given as goal

abbrev pub invariant-loop-turn : goal.invariant-loop-turn
invariant-loop-turn l = units l.bytes l.fn.cursor ≡ many_from begins_declaration (unit_read l.bytes) (l._turn-end - l._turn) l.found l.cursor
