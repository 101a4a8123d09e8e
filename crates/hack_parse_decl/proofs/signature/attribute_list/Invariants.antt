use Rattle.std.proofs.Common.{◌≡◌, ◌-◌}
use Rattle.hack_parse_expr.specs.Rows.{sees}
use Rattle.hack_parse_expr.specs.Symbols.{Name}
use Rattle.hack_parse_expr.specs.Parsers.{list_from}
use Rattle.hack_parse_decl.specs.Declarations.{attribute_list, attribute}
use Rattle.hack_parse_decl.proofs.signature.attribute_list.Given as goal

abbrev pub invariant-loop-turn : goal.invariant-loop-turn
invariant-loop-turn l = attribute_list l.fn.cursor ≡ list_from (sees Name) attribute (l._turn-end - l._turn) l.found l.cursor
