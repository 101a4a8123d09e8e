-- A function value that parses statements, to a depth.
use Rattle.std.specs.Prelude.{ℕ, Result}
use Rattle.std.specs.declared.alloc.Global.{Global}
use denote.Ref.{MutBor}
use Rattle.hack_tree.specs.declared.statement.Stmt.{Stmt}
use Rattle.hack_parse_expr.specs.declared.stop.ParseStop.{ParseStop}
use Rattle.hack_parse_expr.specs.Input.{Input}
use Rattle.hack_parse_expr.specs.Parsers.{Reads}
use Rattle.hack_parse_stmt.specs.Statements.{statement}

pub record NestsStatements (depth : ℕ) (pre : Global → MutBor Input → ℕ → Type 0)
    (post : Global → MutBor Input → ℕ → Result Stmt ParseStop → MutBor Input → Type 0) : Type 0 where
  pub callable : (alloc : Global) (old : MutBor Input) → pre alloc old depth
  pub reads : (alloc : Global) (old new : MutBor Input) (r : Result Stmt ParseStop) → post alloc old depth r new
      → Reads (statement depth old.now) r new.now
