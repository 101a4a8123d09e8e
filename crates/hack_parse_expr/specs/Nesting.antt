-- A function value that parses what counts as nesting, to a depth.
use Rattle.std.specs.Prelude.{ℕ, Result}
use Rattle.std.specs.declared.alloc.Global.{Global}
use denote.Ref.{MutBor}
use Rattle.hack_tree.specs.declared.written_type.WrittenType.{WrittenType}
use Rattle.hack_tree.specs.declared.expression.Expr.{Expr}
use Rattle.hack_parse_expr.specs.declared.stop.ParseStop.{ParseStop}
use Rattle.hack_parse_expr.specs.declared.rows.Nested.{Nested}
use Rattle.hack_parse_expr.specs.Input.{Input}
use Rattle.hack_parse_expr.specs.Parsers.{Reads}
use Rattle.hack_parse_expr.specs.Types.{written_type}
use Rattle.hack_parse_expr.specs.Expressions.{nests}

pub record NestsTypes (depth : ℕ) (pre : Global → MutBor Input → ℕ → Type 0)
    (post : Global → MutBor Input → ℕ → Result WrittenType ParseStop → MutBor Input → Type 0) : Type 0 where
  pub callable : (alloc : Global) (old : MutBor Input) → pre alloc old depth
  pub reads : (alloc : Global) (old new : MutBor Input) (r : Result WrittenType ParseStop) → post alloc old depth r new
      → Reads (written_type depth old.now) r new.now

pub record Nests (depth : ℕ) (pre : Global → MutBor Input → ℕ → Nested → Type 0)
    (post : Global → MutBor Input → ℕ → Nested → Result Expr ParseStop → MutBor Input → Type 0) : Type 0 where
  pub callable : (alloc : Global) (old : MutBor Input) (what : Nested) → pre alloc old depth what
  pub reads : (alloc : Global) (old new : MutBor Input) (what : Nested) (r : Result Expr ParseStop) → post alloc old depth what r new
      → Reads (nests depth what old.now) r new.now
