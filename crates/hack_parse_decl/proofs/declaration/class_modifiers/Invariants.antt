use Rattle.std.proofs.Common.{◌≡◌, ◌-◌}
use Rattle.hack_parse_expr.specs.Parsers.{many_from}
use Rattle.hack_parse_decl.specs.Declarations.{class_modifiers, class_modifier_read, begins_class_modifier}
use Rattle.hack_parse_decl.proofs.declaration.class_modifiers.Given as goal

abbrev pub invariant-loop-turn : goal.invariant-loop-turn
invariant-loop-turn l = class_modifiers l.fn.cursor ≡ many_from begins_class_modifier class_modifier_read (l._turn-end - l._turn) l.found l.cursor
