-- What a check of an expression answers is what the judgement says of it (docs/language.md, Typing expressions).
use Rattle.std.specs.Prelude.{◌≡◌, []}
use Rattle.hack_decls.specs.DeclState.{Map, Symbols}
use Rattle.hack_decls.specs.Names.{TypeIn}
use Rattle.hack_parts.specs.ExprIn.{ExprIn}
use Rattle.hack_rules.specs.Expressions.{judged}
use Rattle.hack_rules.specs.Variables.{Variables}
use Rattle.hack_rules.specs.Walks.{Setting}
use Rattle.hack_sub.specs.declared.scope.Scope.{Scope}
use Rattle.hack_tree.specs.declared.expression.Expr.{Expr}
use Rattle.hack_walk.specs.Checks.{BodyIn, VariablesIn}
use Rattle.hack_expr.specs.declared.checks.ExprOut.{ExprOut}

-- over this map and in these variables the expression has this type, leaves these variables and has these diagnostics
unfoldable pub IsJudged : Setting → Variables → Expr → Map → ExprOut → Type 0
IsJudged setting variables e map out =
    judged e setting map (record { variables = variables; found = [] }) ≡ (out.ty, record { variables = out.env; found = out.diags.items })

-- all that the call is given names is among these symbols
abbrev pub GivenIn : Symbols → Scope → Variables → Expr → Type 0
GivenIn symbols scope variables e = BodyIn symbols scope variables × ExprIn scope symbols e

-- all that the answer names is among these symbols
pub record OutIn (symbols : Symbols) (out : ExprOut) : Type 0 where
  pub ty : TypeIn symbols out.ty
  pub env : VariablesIn symbols out.env
