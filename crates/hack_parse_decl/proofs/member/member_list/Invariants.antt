use Rattle.std.proofs.Common.{◌≡◌, ◌-◌}
use Rattle.hack_parse_expr.specs.Rows.{begins_member}
use Rattle.hack_parse_expr.specs.Parsers.{many_from}
use Rattle.hack_parse_decl.specs.Declarations.{member_list, member}
use Rattle.hack_parse_decl.proofs.member.member_list.Given as goal

abbrev pub invariant-loop-turn : goal.invariant-loop-turn
invariant-loop-turn l = member_list l.fn.cursor ≡ many_from begins_member member (l._turn-end - l._turn) l.found l.cursor
