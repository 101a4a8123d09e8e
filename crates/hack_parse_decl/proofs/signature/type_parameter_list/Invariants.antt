use Rattle.std.proofs.Common.{◌≡◌, ◌-◌}
use Rattle.hack_parse_expr.specs.Rows.{begins_type_parameter}
use Rattle.hack_parse_expr.specs.Parsers.{list_from}
use Rattle.hack_parse_decl.specs.Declarations.{type_parameter_list, type_parameter}
use Rattle.hack_parse_decl.proofs.signature.type_parameter_list.Given as goal

abbrev pub invariant-loop-turn : goal.invariant-loop-turn
invariant-loop-turn l = type_parameter_list l.fn.cursor ≡ list_from begins_type_parameter type_parameter (l._turn-end - l._turn) l.found l.cursor
