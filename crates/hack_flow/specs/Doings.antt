-- How the check of a statement is handed down: a function value that checks it may be called on it, and does there what the judgement says
-- (docs/language.md, Typing statements).
use Rattle.std.specs.Prelude.{◌≡◌, Result}
use Rattle.std.specs.declared.alloc.Global.{Global}
use denote.Ref.{Bor, MutBor}
use Rattle.hack_decls.specs.DeclState.{DeclState}
use Rattle.hack_decls.specs.declared.stop.DeclStop.{DeclStop}
use Rattle.hack_rules.specs.Statements.{doing_of}
use Rattle.hack_rules.specs.Walks.{State}
use Rattle.hack_tree.specs.declared.statement.Stmt.{Stmt}
use Rattle.hack_walk.specs.Checks.{Walks, setting_of}
use Rattle.hack_walk.specs.declared.setting.Setting.{Setting}
use Rattle.hack_flow.specs.Settled.{ExitsIn, inside_of, settled}
use Rattle.hack_flow.specs.StmtIn.{StmtIn}
use Rattle.hack_flow.specs.declared.exits.Exits.{Exits}
use Rattle.hack_flow.specs.declared.inside.Inside.{Inside}

-- a function value that checks this statement, inside any loops
pub record Doings {D Base Held : Type 0} (seen : D → DeclState Base Held) (s : Stmt)
    (pre : Global → Bor Setting → MutBor D → MutBor State → Inside → Bor Stmt → Type 0)
    (post : Global → Bor Setting → MutBor D → MutBor State → Inside → Bor Stmt → Result Exits DeclStop → MutBor D → MutBor State → Type 0) : Type 0 where
  pub callable : (alloc : Global) (setting : Bor Setting) (decls : MutBor D) (state : MutBor State) (inside : Inside) (x : Bor Stmt)
      → x.now ≡ s → pre alloc setting decls state inside x
  pub walks : (alloc : Global) (setting : Bor Setting) (decls : MutBor D) (state : MutBor State) (inside : Inside) (x : Bor Stmt)
      (result : Result Exits DeclStop) (new : MutBor D) (behind : MutBor State)
      → x.now ≡ s → post alloc setting decls state inside x result new behind
      → Walks (settled ((doing_of s).ends (inside_of inside))) (setting_of setting.now) (seen decls.now) state.now result (seen new.now) behind.now
      (λ symbols. StmtIn setting.now.scope.now symbols s) ExitsIn
