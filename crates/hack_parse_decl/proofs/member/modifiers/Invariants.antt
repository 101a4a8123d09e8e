use Rattle.std.proofs.Common.{◌≡◌, ◌-◌}
use Rattle.hack_parse_expr.specs.Parsers.{many_from}
use Rattle.hack_parse_decl.specs.Declarations.{modifiers, modifier_read, begins_modifier}
use Rattle.hack_parse_decl.proofs.member.modifiers.Given as goal

abbrev pub invariant-loop-turn : goal.invariant-loop-turn
invariant-loop-turn l = modifiers l.fn.cursor ≡ many_from begins_modifier modifier_read (l._turn-end - l._turn) l.found l.cursor
