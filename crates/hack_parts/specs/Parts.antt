-- How the checks of parts are handed down: a function value that types an expression, or that finds its branches, may be called on a part, and
-- does there what the part's judgement says (docs/language.md, Typing expressions).
use Rattle.std.specs.Prelude.{◌≡◌, Result}
use Rattle.std.specs.declared.alloc.Global.{Global}
use denote.Ref.{Bor, MutBor}
use Rattle.hack_decls.specs.DeclState.{DeclState}
use Rattle.hack_decls.specs.Names.{TypeIn}
use Rattle.hack_decls.specs.declared.stop.DeclStop.{DeclStop}
use Rattle.hack_rules.specs.Expressions.{meaning_of}
use Rattle.hack_rules.specs.Meanings.{Branches, Meaning}
use Rattle.hack_rules.specs.Walks.{State, Walk}
use Rattle.hack_tree.specs.declared.expression.Expr.{Expr}
use Rattle.hack_types.specs.declared.hack_type.HackType.{HackType}
use Rattle.hack_walk.specs.Checks.{BranchesIn, Walks, setting_of}
use Rattle.hack_walk.specs.declared.setting.Setting.{Setting}
use Rattle.hack_parts.specs.ExprIn.{ExprIn}
use Rattle.hack_parts.specs.declared.reading.Reading.{Reading}
use Rattle.hack_parts.specs.declared.reading.Reading.TheVariants as reading

-- what an expression is in a reading
abbrev pub walk_by : Reading → Meaning → Walk HackType
walk_by reading.Value meaning = meaning.walk
walk_by reading.Left meaning = meaning.left

-- what an expression is as a value
abbrev pub value_of : Expr → Walk HackType
value_of e = (meaning_of e).walk

-- a function value that types this part, in either reading
pub record Values {D Base Held : Type 0} (seen : D → DeclState Base Held) (e : Expr)
    (pre : Global → Bor Setting → MutBor D → MutBor State → Bor Expr → Reading → Type 0)
    (post : Global → Bor Setting → MutBor D → MutBor State → Bor Expr → Reading → Result HackType DeclStop → MutBor D → MutBor State → Type 0) : Type 0 where
  pub callable : (alloc : Global) (setting : Bor Setting) (decls : MutBor D) (state : MutBor State) (x : Bor Expr) (reading : Reading)
      → x.now ≡ e → pre alloc setting decls state x reading
  pub walks : (alloc : Global) (setting : Bor Setting) (decls : MutBor D) (state : MutBor State) (x : Bor Expr) (reading : Reading)
      (result : Result HackType DeclStop) (new : MutBor D) (behind : MutBor State)
      → x.now ≡ e → post alloc setting decls state x reading result new behind
      → Walks (walk_by reading (meaning_of e)) (setting_of setting.now) (seen decls.now) state.now result (seen new.now) behind.now
      (λ symbols. ExprIn setting.now.scope.now symbols e) TypeIn

-- a function value that finds the branches of this part as a condition
pub record Conditions {D Base Held : Type 0} (seen : D → DeclState Base Held) (e : Expr)
    (pre : Global → Bor Setting → MutBor D → MutBor State → Bor Expr → Type 0)
    (post : Global → Bor Setting → MutBor D → MutBor State → Bor Expr → Result Branches DeclStop → MutBor D → MutBor State → Type 0) : Type 0 where
  pub callable : (alloc : Global) (setting : Bor Setting) (decls : MutBor D) (state : MutBor State) (x : Bor Expr)
      → x.now ≡ e → pre alloc setting decls state x
  pub walks : (alloc : Global) (setting : Bor Setting) (decls : MutBor D) (state : MutBor State) (x : Bor Expr)
      (result : Result Branches DeclStop) (new : MutBor D) (behind : MutBor State)
      → x.now ≡ e → post alloc setting decls state x result new behind
      → Walks (meaning_of e).branches (setting_of setting.now) (seen decls.now) state.now result (seen new.now) behind.now
      (λ symbols. ExprIn setting.now.scope.now symbols e) BranchesIn
