-- How the check of a target is handed down: a function value that types the parts of a target may be called on an expression, and does there
-- what the judgement says (docs/language.md, Typing expressions, Assignment).
use Rattle.std.specs.Prelude.{◌≡◌, Result, List, map}
use Rattle.std.specs.List.{fold}
use Rattle.std.specs.declared.alloc.Global.{Global}
use denote.Ref.{Bor, MutBor}
use Rattle.hack_decls.specs.DeclState.{DeclState}
use Rattle.hack_decls.specs.declared.stop.DeclStop.{DeclStop}
use Rattle.hack_parts.specs.ExprIn.{ExprIn}
use Rattle.hack_parts.specs.Forms.{suffix_of}
use Rattle.hack_parts.specs.declared.reading.Reading.{Reading}
use Rattle.hack_parts.specs.declared.reading.Reading.TheVariants as reading
use Rattle.hack_rules.specs.Expressions.{meaning_of}
use Rattle.hack_rules.specs.Meanings.{Aim, Meaning}
use Rattle.hack_rules.specs.Walks.{State, Walk}
use Rattle.hack_targets.specs.AimIn.{AimIn}
use Rattle.hack_tree.specs.declared.expression.Expr.{Expr}
use Rattle.hack_tree.specs.declared.expression.Suffix.{Suffix}
use Rattle.hack_walk.specs.Checks.{Walks, setting_of}
use Rattle.hack_walk.specs.declared.setting.Setting.{Setting}

-- an expression as a target: that of an assignment, or that of `??=`
abbrev pub aim_by : Reading → Meaning → Walk Aim
aim_by reading.Value meaning = meaning.aim
aim_by reading.Left meaning = meaning.left_aim

-- a function value that types the parts of this expression as a target, in either reading
pub record Targets {D Base Held : Type 0} (seen : D → DeclState Base Held) (e : Expr)
    (pre : Global → Bor Setting → MutBor D → MutBor State → Bor Expr → Reading → Type 0)
    (post : Global → Bor Setting → MutBor D → MutBor State → Bor Expr → Reading → Result Aim DeclStop → MutBor D → MutBor State → Type 0) : Type 0 where
  pub callable : (alloc : Global) (setting : Bor Setting) (decls : MutBor D) (state : MutBor State) (x : Bor Expr) (reading : Reading)
      → x.now ≡ e → pre alloc setting decls state x reading
  pub walks : (alloc : Global) (setting : Bor Setting) (decls : MutBor D) (state : MutBor State) (x : Bor Expr) (reading : Reading)
      (result : Result Aim DeclStop) (new : MutBor D) (behind : MutBor State)
      → x.now ≡ e → post alloc setting decls state x reading result new behind
      → Walks (aim_by reading (meaning_of e)) (setting_of setting.now) (seen decls.now) state.now result (seen new.now) behind.now
      (λ symbols. ExprIn setting.now.scope.now symbols e) AimIn

-- an operand with these behind it
abbrev pub behind : Meaning → List Suffix → Meaning
behind base suffixes = fold (λ under suffix. suffix under) base (map suffix_of suffixes)
