-- What a check of a target that was handed down gives.
use Rattle.std.proofs.Common.{◌≡◌, Result}
use Rattle.std.specs.declared.alloc.Global.{Global}
use denote.Ref.{Bor, MutBor}
use Rattle.hack_decls.specs.DeclState.{DeclState}
use Rattle.hack_decls.specs.declared.stop.DeclStop.{DeclStop}
use Rattle.hack_parts.specs.ExprIn.{ExprIn}
use Rattle.hack_parts.specs.declared.reading.Reading.{Reading}
use Rattle.hack_rules.specs.Expressions.{meaning_of}
use Rattle.hack_rules.specs.Meanings.{Aim}
use Rattle.hack_rules.specs.Walks.{State}
use Rattle.hack_targets.specs.AimIn.{AimIn}
use Rattle.hack_tree.specs.declared.expression.Expr.{Expr}
use Rattle.hack_walk.specs.Checks.{Walks, setting_of}
use Rattle.hack_walk.specs.declared.setting.Setting.{Setting}
use Rattle.hack_uses.specs.Aims.{Targets, aim_by}

module _ {D Base Held : Type 0} {seen : D → DeclState Base Held}
    {pre : Global → Bor Setting → MutBor D → MutBor State → Bor Expr → Reading → Type 0}
    {post : Global → Bor Setting → MutBor D → MutBor State → Bor Expr → Reading → Result Aim DeclStop → MutBor D → MutBor State → Type 0} where
  pub target_walks : {e : Expr} → Targets seen e pre post → {alloc : Global} {setting : Bor Setting} {decls : MutBor D} {state : MutBor State} {x : Bor Expr} {reading : Reading}
      {result : Result Aim DeclStop} {new : MutBor D} {behind : MutBor State} → x.now ≡ e → post alloc setting decls state x reading result new behind
      → Walks (aim_by reading (meaning_of e)) (setting_of setting.now) (seen decls.now) state.now result (seen new.now) behind.now (λ symbols. ExprIn setting.now.scope.now symbols e) AimIn
  target_walks part is gives = part.walks _ _ _ _ _ _ _ _ _ is gives
