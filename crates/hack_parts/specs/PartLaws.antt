-- What a check that was handed down says of an item of a list.
use Rattle.std.proofs.Common.{◌≡◌, ◌<◌, ℕ, Result, List, length, get_or, All, sym, subst}
use Rattle.std.specs.declared.alloc.Global.{Global}
use denote.Ref.{Bor, MutBor}
use Rattle.hack_decls.specs.DeclState.{DeclState}
use Rattle.hack_decls.specs.Names.{TypeIn}
use Rattle.hack_decls.specs.declared.stop.DeclStop.{DeclStop}
use Rattle.hack_rules.specs.Expressions.{meaning_of}
use Rattle.hack_rules.specs.Meanings.{Branches}
use Rattle.hack_rules.specs.Walks.{State}
use Rattle.hack_tree.specs.declared.expression.Expr.{Expr}
use Rattle.hack_types.specs.declared.hack_type.HackType.{HackType}
use Rattle.hack_walk.specs.Checks.{BranchesIn, Walks, setting_of}
use Rattle.hack_walk.specs.declared.setting.Setting.{Setting}
use Rattle.hack_parts.specs.ExprIn.{ExprIn}
use Rattle.hack_parts.specs.Parts.{Conditions, Values, walk_by}
use Rattle.hack_parts.specs.declared.reading.Reading.{Reading}

module _ {D Base Held : Type 0} {seen : D → DeclState Base Held} where
  module _ {pre : Global → Bor Setting → MutBor D → MutBor State → Bor Expr → Reading → Type 0}
      {post : Global → Bor Setting → MutBor D → MutBor State → Bor Expr → Reading → Result HackType DeclStop → MutBor D → MutBor State → Type 0} where
    -- an item of a list may be checked
    pub value_at : (parts : List Expr) (i : ℕ) (x : Expr) → i < length parts → x ≡ get_or parts i x → All (λ e. Values seen e pre post) parts → Values seen x pre post
    value_at parts i x lt is all = subst (λ (e : Expr). Values seen e pre post) (sym is) (all i x lt)

    -- and what its check gives
    pub value_walks : {e : Expr} → Values seen e pre post → {alloc : Global} {setting : Bor Setting} {decls : MutBor D} {state : MutBor State} {x : Bor Expr} {reading : Reading}
        {result : Result HackType DeclStop} {new : MutBor D} {behind : MutBor State} → x.now ≡ e → post alloc setting decls state x reading result new behind
        → Walks (walk_by reading (meaning_of e)) (setting_of setting.now) (seen decls.now) state.now result (seen new.now) behind.now (λ symbols. ExprIn setting.now.scope.now symbols e) TypeIn
    value_walks part is gives = part.walks _ _ _ _ _ _ _ _ _ is gives

  module _ {pre : Global → Bor Setting → MutBor D → MutBor State → Bor Expr → Type 0}
      {post : Global → Bor Setting → MutBor D → MutBor State → Bor Expr → Result Branches DeclStop → MutBor D → MutBor State → Type 0} where
    pub condition_at : (parts : List Expr) (i : ℕ) (x : Expr) → i < length parts → x ≡ get_or parts i x → All (λ e. Conditions seen e pre post) parts
        → Conditions seen x pre post
    condition_at parts i x lt is all = subst (λ (e : Expr). Conditions seen e pre post) (sym is) (all i x lt)

    pub condition_walks : {e : Expr} → Conditions seen e pre post → {alloc : Global} {setting : Bor Setting} {decls : MutBor D} {state : MutBor State} {x : Bor Expr}
        {result : Result Branches DeclStop} {new : MutBor D} {behind : MutBor State} → x.now ≡ e → post alloc setting decls state x result new behind
        → Walks (meaning_of e).branches (setting_of setting.now) (seen decls.now) state.now result (seen new.now) behind.now (λ symbols. ExprIn setting.now.scope.now symbols e) BranchesIn
    condition_walks part is gives = part.walks _ _ _ _ _ _ _ _ is gives
