-- The checks themselves, handed down to a part.
use Rattle.std.proofs.Common.{◌≡◌, ◌<◌, Result, subst}
use Rattle.std.specs.declared.alloc.Global.{Global}
use denote.Ref.{Bor, MutBor}
use Rattle.hack_decls.specs.DeclState.{DeclState}
use Rattle.hack_decls.specs.Names.{TypeIn}
use Rattle.hack_decls.specs.declared.stop.DeclStop.{DeclStop}
use Rattle.hack_parts.specs.ExprIn.{ExprIn}
use Rattle.hack_parts.specs.Parts.{Conditions, Values, walk_by}
use Rattle.hack_parts.specs.declared.reading.Reading.{Reading}
use Rattle.hack_rules.specs.Expressions.{meaning_of}
use Rattle.hack_rules.specs.Meanings.{Aim, Branches}
use Rattle.hack_rules.specs.Walks.{State}
use Rattle.hack_targets.specs.AimIn.{AimIn}
use Rattle.hack_tree.specs.declared.expression.ClassReference.{ClassReference}
use Rattle.hack_tree.specs.declared.expression.Expr.{Expr, size-Expr}
use Rattle.hack_tree.specs.declared.expression.Expr.TheVariants as e
use Rattle.hack_tree.specs.declared.expression.ScopedMember.{ScopedMember}
use Rattle.hack_types.specs.declared.hack_type.HackType.{HackType}
use Rattle.hack_types.specs.declared.place.Place.{Place}
use Rattle.hack_uses.specs.Aims.{Targets, aim_by}
use Rattle.hack_uses.specs.SubParts.{AllInMember}
use Rattle.hack_walk.specs.Checks.{BranchesIn, Walks, setting_of}
use Rattle.hack_walk.specs.declared.setting.Setting.{Setting}
use Rattle.hack_expr.proofs.Deeper.{of_member}

module _ {D Base Held : Type 0} {seen : D → DeclState Base Held} {part : Expr} where
  pub typing : {pre : Global → Bor Setting → MutBor D → MutBor State → Bor Expr → Reading → Type 0}
      {post : Global → Bor Setting → MutBor D → MutBor State → Bor Expr → Reading → Result HackType DeclStop → MutBor D → MutBor State → Type 0}
      → ((alloc : Global) (setting : Bor Setting) (decls : MutBor D) (state : MutBor State) (x : Bor Expr) (reading : Reading) → x.now ≡ part → pre alloc setting decls state x reading)
      → ((alloc : Global) (setting : Bor Setting) (decls : MutBor D) (state : MutBor State) (x : Bor Expr) (reading : Reading)
      (result : Result HackType DeclStop) (new : MutBor D) (behind : MutBor State) → post alloc setting decls state x reading result new behind
      → Walks (walk_by reading (meaning_of x.now)) (setting_of setting.now) (seen decls.now) state.now result (seen new.now) behind.now (λ symbols. ExprIn setting.now.scope.now symbols x.now) TypeIn)
      → Values seen part pre post
  typing callable walks = record {
    callable = callable;
    walks = λ alloc setting decls state x reading result new behind same called.
        subst (λ (y : Expr). Walks (walk_by reading (meaning_of y)) (setting_of setting.now) (seen decls.now) state.now result (seen new.now) behind.now (λ symbols. ExprIn setting.now.scope.now symbols y) TypeIn)
        same (walks alloc setting decls state x reading result new behind called);
  }

  pub branching : {pre : Global → Bor Setting → MutBor D → MutBor State → Bor Expr → Type 0}
      {post : Global → Bor Setting → MutBor D → MutBor State → Bor Expr → Result Branches DeclStop → MutBor D → MutBor State → Type 0}
      → ((alloc : Global) (setting : Bor Setting) (decls : MutBor D) (state : MutBor State) (x : Bor Expr) → x.now ≡ part → pre alloc setting decls state x)
      → ((alloc : Global) (setting : Bor Setting) (decls : MutBor D) (state : MutBor State) (x : Bor Expr)
      (result : Result Branches DeclStop) (new : MutBor D) (behind : MutBor State) → post alloc setting decls state x result new behind
      → Walks (meaning_of x.now).branches (setting_of setting.now) (seen decls.now) state.now result (seen new.now) behind.now (λ symbols. ExprIn setting.now.scope.now symbols x.now) BranchesIn)
      → Conditions seen part pre post
  branching callable walks = record {
    callable = callable;
    walks = λ alloc setting decls state x result new behind same called.
        subst (λ (y : Expr). Walks (meaning_of y).branches (setting_of setting.now) (seen decls.now) state.now result (seen new.now) behind.now (λ symbols. ExprIn setting.now.scope.now symbols y) BranchesIn)
        same (walks alloc setting decls state x result new behind called);
  }

  pub aiming : {pre : Global → Bor Setting → MutBor D → MutBor State → Bor Expr → Reading → Type 0}
      {post : Global → Bor Setting → MutBor D → MutBor State → Bor Expr → Reading → Result Aim DeclStop → MutBor D → MutBor State → Type 0}
      → ((alloc : Global) (setting : Bor Setting) (decls : MutBor D) (state : MutBor State) (x : Bor Expr) (reading : Reading) → x.now ≡ part → pre alloc setting decls state x reading)
      → ((alloc : Global) (setting : Bor Setting) (decls : MutBor D) (state : MutBor State) (x : Bor Expr) (reading : Reading)
      (result : Result Aim DeclStop) (new : MutBor D) (behind : MutBor State) → post alloc setting decls state x reading result new behind
      → Walks (aim_by reading (meaning_of x.now)) (setting_of setting.now) (seen decls.now) state.now result (seen new.now) behind.now (λ symbols. ExprIn setting.now.scope.now symbols x.now) AimIn)
      → Targets seen part pre post
  aiming callable walks = record {
    callable = callable;
    walks = λ alloc setting decls state x reading result new behind same called.
        subst (λ (y : Expr). Walks (aim_by reading (meaning_of y)) (setting_of setting.now) (seen decls.now) state.now result (seen new.now) behind.now (λ symbols. ExprIn setting.now.scope.now symbols y) AimIn)
        same (walks alloc setting decls state x reading result new behind called);
  }

-- and to each expression in a member behind `::`
pub typing_in_member : {D Base Held : Type 0} {seen : D → DeclState Base Held} {pre : Global → Bor Setting → MutBor D → MutBor State → Bor Expr → Reading → Type 0}
    {post : Global → Bor Setting → MutBor D → MutBor State → Bor Expr → Reading → Result HackType DeclStop → MutBor D → MutBor State → Type 0}
    {whole : Expr} {at : Place} {class : ClassReference} {what x : ScopedMember}
    → ((y : Expr) → size-Expr y < size-Expr whole → Values seen y pre post) → whole ≡ e.Scoped at class what → x ≡ what → AllInMember (λ y. Values seen y pre post) x
typing_in_member {seen = seen} {pre = pre} {post = post} {whole = whole} gives is same = of_member {whole = whole} {Q = λ y. Values seen y pre post} gives is same
