-- One level of a tree, opened.
use Rattle.std.proofs.Common.{◌≡◌, ℕ, List, ap, sym, ◌∙◌, Option}
use Rattle.hack_types.specs.declared.place.Place.{Place}
use Rattle.hack_tree.specs.declared.written_type.Primitive.{Primitive}
use Rattle.hack_tree.specs.declared.written_type.WrittenType.{out-WrittenType}
use Rattle.hack_tree.specs.declared.written_type.WrittenType.TheVariants as written
use Rattle.hack_tree.specs.declared.written_type.WrittenType.TheViews.{out-roll-WrittenType}
use Rattle.hack_tree.specs.declared.written_type.WrittenType.TheOpen.{WrittenType-F}
use Rattle.hack_tree.specs.declared.expression.Literal.{Literal}
use Rattle.hack_tree.specs.declared.expression.Expr.{Expr, out-Expr}
use Rattle.hack_tree.specs.declared.expression.Expr.TheVariants as e
use Rattle.hack_tree.specs.declared.expression.Expr.TheViews.{out-roll-Expr}
use Rattle.hack_tree.specs.declared.expression.Expr.TheOpen.{Expr-F}
use Rattle.hack_tree.specs.declared.statement.Stmt.{out-Stmt}
use Rattle.hack_tree.specs.declared.statement.Stmt.TheVariants as stmt
use Rattle.hack_tree.specs.declared.statement.Stmt.TheViews.{out-roll-Stmt}
use Rattle.hack_tree.specs.declared.statement.Stmt.TheOpen.{Stmt-F}
use Rattle.hack_first.specs.FirstTrees.{ExprLayer, StmtLayer, TypeLayer}

-- a literal, opened
pub out_literal : (at : Place) (l : Literal) → ◌≡◌ {A = ExprLayer} (out-Expr (e.Literal at l)) (Expr-F.Literal at l)
out_literal at l = ap out-Expr (sym (e.rolls-Literal at l)) ∙ out-roll-Expr (Expr-F.Literal at l)

-- a call, opened
pub out_call : (at : Place) (name : ℕ) (arguments : List Expr) → ◌≡◌ {A = ExprLayer} (out-Expr (e.Call at name arguments)) (Expr-F.Call at name arguments)
out_call at name arguments = ap out-Expr (sym (e.rolls-Call at name arguments)) ∙ out-roll-Expr (Expr-F.Call at name arguments)

-- a return, opened
pub out_return : (at : Place) (value : Option Expr) → ◌≡◌ {A = StmtLayer} (out-Stmt (stmt.Return at value)) (Stmt-F.Return at value)
out_return at value = ap out-Stmt (sym (stmt.rolls-Return at value)) ∙ out-roll-Stmt (Stmt-F.Return at value)

-- a primitive type, opened
pub out_primitive : (at : Place) (p : Primitive) → ◌≡◌ {A = TypeLayer} (out-WrittenType (written.Primitive at p)) (WrittenType-F.Primitive at p)
out_primitive at p = ap out-WrittenType (sym (written.rolls-Primitive at p)) ∙ out-roll-WrittenType (WrittenType-F.Primitive at p)
