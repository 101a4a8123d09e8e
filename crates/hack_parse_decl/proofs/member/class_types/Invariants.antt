use Rattle.std.proofs.Common.{◌≡◌, ◌-◌}
use Rattle.hack_parse_expr.specs.Rows.{sees}
use Rattle.hack_parse_expr.specs.Symbols.{Name}
use Rattle.hack_parse_expr.specs.Parsers.{list_from}
use Rattle.hack_parse_decl.specs.Declarations.{class_types, class_type}
use Rattle.hack_parse_decl.proofs.member.class_types.Given as goal

abbrev pub invariant-loop-turn : goal.invariant-loop-turn
invariant-loop-turn l = class_types l.fn.cursor ≡ list_from (sees Name) class_type (l._turn-end - l._turn) l.found l.cursor
