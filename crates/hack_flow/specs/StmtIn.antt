-- The symbols that a statement names, with `Throwable` where something is thrown or caught (docs/language.md, Typing statements).
use Rattle.std.specs.Prelude.{Option, List, [], ◌∷◌, ◌++◌, All, IsTrue, option_map}
use Rattle.std.specs.List.{flat_map}
use Rattle.hack_tree.specs.declared.expression.Expr.{Expr}
use Rattle.hack_tree.specs.declared.statement.Case.{Case}
use Rattle.hack_tree.specs.declared.statement.Catch.{Catch}
use Rattle.hack_tree.specs.declared.statement.Stmt.{Stmt}
use Rattle.hack_tree.specs.declared.statement.Stmt.TheOpen.{Stmt-F, Case-F, Catch-F}
use Rattle.hack_tree.specs.declared.statement.Stmt.TheFolds.{fold-Stmt, fold-Case, fold-Catch}
use Rattle.hack_decls.specs.DeclState.{Symbols}
use Rattle.hack_decls.specs.Names.{class_symbol}
use Rattle.hack_parts.specs.ExprIn.{Mentioned, of_all, of_any, of_arguments, symbols_of as expression_symbols}
use Rattle.hack_rules.specs.WrittenTypes.{names_of}
use Rattle.hack_sub.specs.declared.scope.Scope.{Scope}
use Rattle.hack_written.specs.WrittenIn.{class_symbols_of}

-- the class `Throwable`
abbrev pub of_throwable : Mentioned
of_throwable = class_symbol 4 ∷ []

-- expressions in a row
abbrev pub of_expressions : Scope → List Expr → Mentioned
of_expressions scope expressions = flat_map (expression_symbols scope) expressions

-- an expression that may be missing
abbrev pub of_expression : Scope → Option Expr → Mentioned
of_expression scope e = of_any (option_map (expression_symbols scope) e)

-- one level of a statement, with the symbols of each part in its place
abbrev pub symbols_by : Scope → Stmt-F Mentioned Mentioned Mentioned → Mentioned
symbols_by scope (Stmt-F.Block at body) = of_all body
symbols_by scope (Stmt-F.Empty at) = []
symbols_by scope (Stmt-F.If at condition body other) = expression_symbols scope condition ++ body ++ of_any other
symbols_by scope (Stmt-F.While at condition body) = expression_symbols scope condition ++ body
symbols_by scope (Stmt-F.DoWhile at body condition) = body ++ expression_symbols scope condition
symbols_by scope (Stmt-F.For at start condition steps body) =
    of_expressions scope start ++ of_expression scope condition ++ of_expressions scope steps ++ body
symbols_by scope (Stmt-F.Foreach at subject key value body) = expression_symbols scope subject ++ body
symbols_by scope (Stmt-F.Switch at subject cases) = expression_symbols scope subject ++ of_all cases
symbols_by scope (Stmt-F.Return at value) = of_expression scope value
symbols_by scope (Stmt-F.Throw at value) = of_throwable ++ expression_symbols scope value
symbols_by scope (Stmt-F.Break at) = []
symbols_by scope (Stmt-F.Continue at) = []
symbols_by scope (Stmt-F.Echo at values) = of_expressions scope values
symbols_by scope (Stmt-F.Expression at expression) = expression_symbols scope expression
symbols_by scope (Stmt-F.Try at body catches last) = of_all body ++ of_all catches ++ of_arguments last

-- a case
abbrev pub case_symbols_by : Scope → Case-F Mentioned Mentioned Mentioned → Mentioned
case_symbols_by scope c = of_expression scope c.value ++ of_all c.body

-- a catch
abbrev pub catch_symbols_by : Scope → Catch-F Mentioned Mentioned Mentioned → Mentioned
catch_symbols_by scope c = of_throwable ++ class_symbols_of (names_of scope) c.class ++ of_all c.body

abbrev pub symbols_of : Scope → Stmt → Mentioned
symbols_of scope = fold-Stmt Mentioned Mentioned Mentioned (symbols_by scope) (case_symbols_by scope) (catch_symbols_by scope)

abbrev pub case_symbols_of : Scope → Case → Mentioned
case_symbols_of scope = fold-Case Mentioned Mentioned Mentioned (symbols_by scope) (case_symbols_by scope) (catch_symbols_by scope)

abbrev pub catch_symbols_of : Scope → Catch → Mentioned
catch_symbols_of scope = fold-Catch Mentioned Mentioned Mentioned (symbols_by scope) (case_symbols_by scope) (catch_symbols_by scope)

-- all that a statement names is among these symbols
unfoldable pub StmtIn : Scope → Symbols → Stmt → Type 0
StmtIn scope symbols s = All (λ symbol. IsTrue (symbols symbol)) (symbols_of scope s)

-- the same of a case
unfoldable pub CaseIn : Scope → Symbols → Case → Type 0
CaseIn scope symbols c = All (λ symbol. IsTrue (symbols symbol)) (case_symbols_of scope c)

-- the same of a catch
unfoldable pub CatchIn : Scope → Symbols → Catch → Type 0
CatchIn scope symbols c = All (λ symbol. IsTrue (symbols symbol)) (catch_symbols_of scope c)
