use Rattle.std.proofs.Common.{◌≡◌, ◌-◌}
use Rattle.hack_parse_expr.specs.Rows.{sees}
use Rattle.hack_parse_expr.specs.Symbols.{Name}
use Rattle.hack_parse_expr.specs.Parsers.{many_from}
use Rattle.hack_parse_decl.specs.Declarations.{enum_cases, enum_case}
use Rattle.hack_parse_decl.proofs.declaration.enum_cases.Given as goal

abbrev pub invariant-loop-turn : goal.invariant-loop-turn
invariant-loop-turn l = enum_cases l.fn.cursor ≡ many_from (sees Name) enum_case (l._turn-end - l._turn) l.found l.cursor
