use Rattle.std.proofs.Common.{◌≡◌, ◌-◌}
use Rattle.hack_parse_expr.specs.Rows.{begins_interface_member}
use Rattle.hack_parse_expr.specs.Parsers.{many_from}
use Rattle.hack_parse_decl.specs.Declarations.{interface_member_list, interface_member}
use Rattle.hack_parse_decl.proofs.member.interface_member_list.Given as goal

abbrev pub invariant-loop-turn : goal.invariant-loop-turn
invariant-loop-turn l = interface_member_list l.fn.cursor ≡ many_from begins_interface_member interface_member (l._turn-end - l._turn) l.found l.cursor
