-- Bodies of functions and methods, and values of defaults, constants, properties and cases (docs/language.md, Typing statements, Bodies).
use Rattle.std.specs.Prelude.{Bool, true, false, Option, Some, None, List, [], map}
use Rattle.hack_tree.specs.declared.expression.Expr.{Expr}
use Rattle.hack_tree.specs.declared.statement.Stmt.{Stmt}
use Rattle.hack_types.specs.declared.hack_type.HackType.{HackType, out-HackType}
use Rattle.hack_types.specs.declared.hack_type.HackType.TheOpen.{HackType-F}
use Rattle.hack_types.specs.declared.place.Place.{Place}
use Rattle.hack_rules.specs.Ends.{block, outside}
use Rattle.hack_rules.specs.Expressions.{meaning_of}
use Rattle.hack_diag.specs.Messages.{no_return}
use Rattle.hack_rules.specs.Statements.{doing_of}
use Rattle.hack_rules.specs.Variables.{Variables}
use Rattle.hack_rules.specs.Walks.{Walk, ◌>>=◌, ◌>>◌, reads, expect, replace, unless}

-- whether a body may end without a return: its result is `void` or `_` itself
abbrev pub may_end_by : HackType-F HackType → Bool
may_end_by HackType-F.Void = true
may_end_by HackType-F.Any = true
may_end_by _ = false

-- with a normal end the result must be one of these
abbrev pub returns_by : HackType → Option Variables → Bool
returns_by result None = true
returns_by result (Some here) = may_end_by (out-HackType result)

-- a body, from the types of its parameters; 4017 at the function's name
unfoldable pub body_row : Place → Variables → List Stmt → Walk (Unit {0})
body_row name_at parameters statements = do
  replace parameters
  ends ← block (map doing_of statements) outside
  result ← reads (λ m scope. scope.result)
  unless (returns_by result ends.normal) name_at no_return

-- a value expects its type, without any variables
unfoldable pub value_row : HackType → Expr → Walk (Unit {0})
value_row ty value = do
  replace []
  found ← (meaning_of value).walk
  expect (meaning_of value).at ty found
