use Rattle.std.proofs.Common.{◌≡◌, ◌-◌}
use Rattle.hack_parse_expr.specs.Rows.{begins_parameter}
use Rattle.hack_parse_expr.specs.Parsers.{list_from}
use Rattle.hack_parse_decl.specs.Declarations.{parameter_list, parameter}
use Rattle.hack_parse_decl.proofs.signature.parameter_list.Given as goal

abbrev pub invariant-loop-turn : goal.invariant-loop-turn
invariant-loop-turn l = parameter_list l.fn.cursor ≡ list_from begins_parameter parameter (l._turn-end - l._turn) l.found l.cursor
