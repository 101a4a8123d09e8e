-- What the parts of a statement name, it names too.
use Rattle.std.proofs.Common.{◌≡◌, ◌∙◌, IsTrue, Option, Some, None, IfSome, List, [], ◌∷◌, ◌++◌, All, map, option_map, sym, ap, subst, arith}
use Rattle.std.proofs.lemmas.List.Elements.{All-cons, All-head}
use Rattle.hack_types.specs.declared.ids.SymbolId.{SymbolId}
use Rattle.hack_types.specs.declared.place.Place.{Place}
use Rattle.hack_decls.specs.DeclState.{Symbols}
use Rattle.hack_decls.specs.NameLaws.{back, front}
use Rattle.hack_decls.specs.Names.{class_symbol}
use Rattle.hack_parts.specs.ExprIn.{ExprIn, Mentioned, of_all, of_any, of_arguments, symbols_of as expression_symbols}
use Rattle.hack_rules.specs.WrittenTypes.{names_of}
use Rattle.hack_sub.specs.declared.scope.Scope.{Scope}
use Rattle.hack_written.specs.WrittenIn.{ClassIn, class_symbols_of}
use Rattle.hack_tree.specs.declared.declaration.DeclaredName.{DeclaredName}
use Rattle.hack_tree.specs.declared.expression.Expr.{Expr}
use Rattle.hack_tree.specs.declared.statement.Case.{Case}
use Rattle.hack_tree.specs.declared.statement.Catch.{Catch}
use Rattle.hack_tree.specs.declared.statement.Stmt.{Stmt}
use Rattle.hack_tree.specs.declared.statement.Stmt.TheFolds.{fold-roll-Stmt, fold_out-Case, fold_out-Catch}
use Rattle.hack_tree.specs.declared.statement.Stmt.TheOpen.{Stmt-F}
use Rattle.hack_tree.specs.declared.statement.Stmt.TheVariants as s
use Rattle.hack_flow.specs.StmtIn.{CaseIn, CatchIn, StmtIn, case_symbols_by, case_symbols_of, catch_symbols_by, catch_symbols_of, of_expression, of_expressions, of_throwable, symbols_by, symbols_of}

block_symbols : (scope : Scope) (at : Place) (body : List Stmt) → symbols_of scope (s.Block at body) ≡ of_all (map (symbols_of scope) body)
block_symbols scope at body =
    ap (symbols_of scope) (sym (s.rolls-Block at body)) ∙ fold-roll-Stmt Mentioned Mentioned Mentioned (symbols_by scope) (case_symbols_by scope) (catch_symbols_by scope) (Stmt-F.Block at body)

if_symbols : (scope : Scope) (at : Place) (condition : Expr) (body : Stmt) (other : Option Stmt) → symbols_of scope (s.If at condition body other) ≡ expression_symbols scope condition ++ symbols_of scope body ++ of_any (option_map (symbols_of scope) other)
if_symbols scope at condition body None =
    ap (symbols_of scope) (sym (s.rolls-If at condition body None)) ∙ fold-roll-Stmt Mentioned Mentioned Mentioned (symbols_by scope) (case_symbols_by scope) (catch_symbols_by scope) (Stmt-F.If at condition body None)
if_symbols scope at condition body (Some other) =
    ap (symbols_of scope) (sym (s.rolls-If at condition body (Some other))) ∙ fold-roll-Stmt Mentioned Mentioned Mentioned (symbols_by scope) (case_symbols_by scope) (catch_symbols_by scope) (Stmt-F.If at condition body (Some other))

while_symbols : (scope : Scope) (at : Place) (condition : Expr) (body : Stmt) → symbols_of scope (s.While at condition body) ≡ expression_symbols scope condition ++ symbols_of scope body
while_symbols scope at condition body =
    ap (symbols_of scope) (sym (s.rolls-While at condition body)) ∙ fold-roll-Stmt Mentioned Mentioned Mentioned (symbols_by scope) (case_symbols_by scope) (catch_symbols_by scope) (Stmt-F.While at condition body)

do_symbols : (scope : Scope) (at : Place) (body : Stmt) (condition : Expr) → symbols_of scope (s.DoWhile at body condition) ≡ symbols_of scope body ++ expression_symbols scope condition
do_symbols scope at body condition =
    ap (symbols_of scope) (sym (s.rolls-DoWhile at body condition)) ∙ fold-roll-Stmt Mentioned Mentioned Mentioned (symbols_by scope) (case_symbols_by scope) (catch_symbols_by scope) (Stmt-F.DoWhile at body condition)

for_symbols : (scope : Scope) (at : Place) (start : List Expr) (condition : Option Expr) (steps : List Expr) (body : Stmt) → symbols_of scope (s.For at start condition steps body) ≡ of_expressions scope start ++ of_expression scope condition ++ of_expressions scope steps ++ symbols_of scope body
for_symbols scope at start condition steps body =
    ap (symbols_of scope) (sym (s.rolls-For at start condition steps body)) ∙ fold-roll-Stmt Mentioned Mentioned Mentioned (symbols_by scope) (case_symbols_by scope) (catch_symbols_by scope) (Stmt-F.For at start condition steps body)

foreach_symbols : (scope : Scope) (at : Place) (subject : Expr) (key : Option DeclaredName) (value : DeclaredName) (body : Stmt) → symbols_of scope (s.Foreach at subject key value body) ≡ expression_symbols scope subject ++ symbols_of scope body
foreach_symbols scope at subject key value body =
    ap (symbols_of scope) (sym (s.rolls-Foreach at subject key value body)) ∙ fold-roll-Stmt Mentioned Mentioned Mentioned (symbols_by scope) (case_symbols_by scope) (catch_symbols_by scope) (Stmt-F.Foreach at subject key value body)

switch_symbols : (scope : Scope) (at : Place) (subject : Expr) (cases : List Case) → symbols_of scope (s.Switch at subject cases) ≡ expression_symbols scope subject ++ of_all (map (case_symbols_of scope) cases)
switch_symbols scope at subject cases =
    ap (symbols_of scope) (sym (s.rolls-Switch at subject cases)) ∙ fold-roll-Stmt Mentioned Mentioned Mentioned (symbols_by scope) (case_symbols_by scope) (catch_symbols_by scope) (Stmt-F.Switch at subject cases)

return_symbols : (scope : Scope) (at : Place) (value : Option Expr) → symbols_of scope (s.Return at value) ≡ of_expression scope value
return_symbols scope at value =
    ap (symbols_of scope) (sym (s.rolls-Return at value)) ∙ fold-roll-Stmt Mentioned Mentioned Mentioned (symbols_by scope) (case_symbols_by scope) (catch_symbols_by scope) (Stmt-F.Return at value)

throw_symbols : (scope : Scope) (at : Place) (value : Expr) → symbols_of scope (s.Throw at value) ≡ of_throwable ++ expression_symbols scope value
throw_symbols scope at value =
    ap (symbols_of scope) (sym (s.rolls-Throw at value)) ∙ fold-roll-Stmt Mentioned Mentioned Mentioned (symbols_by scope) (case_symbols_by scope) (catch_symbols_by scope) (Stmt-F.Throw at value)

echo_symbols : (scope : Scope) (at : Place) (values : List Expr) → symbols_of scope (s.Echo at values) ≡ of_expressions scope values
echo_symbols scope at values =
    ap (symbols_of scope) (sym (s.rolls-Echo at values)) ∙ fold-roll-Stmt Mentioned Mentioned Mentioned (symbols_by scope) (case_symbols_by scope) (catch_symbols_by scope) (Stmt-F.Echo at values)

expression_symbols_are : (scope : Scope) (at : Place) (expression : Expr) → symbols_of scope (s.Expression at expression) ≡ expression_symbols scope expression
expression_symbols_are scope at expression =
    ap (symbols_of scope) (sym (s.rolls-Expression at expression)) ∙ fold-roll-Stmt Mentioned Mentioned Mentioned (symbols_by scope) (case_symbols_by scope) (catch_symbols_by scope) (Stmt-F.Expression at expression)

try_symbols : (scope : Scope) (at : Place) (body : List Stmt) (catches : List Catch) (last : Option (List Stmt)) → symbols_of scope (s.Try at body catches last) ≡ of_all (map (symbols_of scope) body) ++ of_all (map (catch_symbols_of scope) catches) ++ of_arguments (option_map (map (symbols_of scope)) last)
try_symbols scope at body catches None =
    ap (symbols_of scope) (sym (s.rolls-Try at body catches None)) ∙ fold-roll-Stmt Mentioned Mentioned Mentioned (symbols_by scope) (case_symbols_by scope) (catch_symbols_by scope) (Stmt-F.Try at body catches None)
try_symbols scope at body catches (Some last) =
    ap (symbols_of scope) (sym (s.rolls-Try at body catches (Some last))) ∙ fold-roll-Stmt Mentioned Mentioned Mentioned (symbols_by scope) (case_symbols_by scope) (catch_symbols_by scope) (Stmt-F.Try at body catches (Some last))

case_symbols : (scope : Scope) (c : Case) → case_symbols_of scope c ≡ of_expression scope c.value ++ of_all (map (symbols_of scope) c.body)
case_symbols scope c = fold_out-Case Mentioned Mentioned Mentioned (symbols_by scope) (case_symbols_by scope) (catch_symbols_by scope) c

catch_symbols : (scope : Scope) (c : Catch) → catch_symbols_of scope c ≡ of_throwable ++ class_symbols_of (names_of scope) c.class ++ of_all (map (symbols_of scope) c.body)
catch_symbols scope c = fold_out-Catch Mentioned Mentioned Mentioned (symbols_by scope) (case_symbols_by scope) (catch_symbols_by scope) c

module _ (scope : Scope) (symbols : Symbols) where
  abbrev In : SymbolId → Type 0
  In symbol = IsTrue (symbols symbol)

  -- lists of parts
  each : (ss : List Stmt) → All In (of_all (map (symbols_of scope) ss)) → All (StmtIn scope symbols) ss
  unfolding StmtIn
  each [] all = λ k d lt. absurd (omega (arith, lt))
  each (x ∷ xs) all = All-cons (StmtIn scope symbols) x xs (front In (symbols_of scope x) (of_all (map (symbols_of scope) xs)) all) (each xs (back In (symbols_of scope x) (of_all (map (symbols_of scope) xs)) all))

  each_case : (cs : List Case) → All In (of_all (map (case_symbols_of scope) cs)) → All (CaseIn scope symbols) cs
  unfolding CaseIn
  each_case [] all = λ k d lt. absurd (omega (arith, lt))
  each_case (x ∷ xs) all =
      All-cons (CaseIn scope symbols) x xs (front In (case_symbols_of scope x) (of_all (map (case_symbols_of scope) xs)) all) (each_case xs (back In (case_symbols_of scope x) (of_all (map (case_symbols_of scope) xs)) all))

  each_catch : (cs : List Catch) → All In (of_all (map (catch_symbols_of scope) cs)) → All (CatchIn scope symbols) cs
  unfolding CatchIn
  each_catch [] all = λ k d lt. absurd (omega (arith, lt))
  each_catch (x ∷ xs) all =
      All-cons (CatchIn scope symbols) x xs (front In (catch_symbols_of scope x) (of_all (map (catch_symbols_of scope) xs)) all)
      (each_catch xs (back In (catch_symbols_of scope x) (of_all (map (catch_symbols_of scope) xs)) all))

  each_expression : (es : List Expr) → All In (of_expressions scope es) → All (ExprIn scope symbols) es
  unfolding ExprIn
  each_expression [] all = λ k d lt. absurd (omega (arith, lt))
  each_expression (x ∷ xs) all =
      All-cons (ExprIn scope symbols) x xs (front In (expression_symbols scope x) (of_expressions scope xs) all) (each_expression xs (back In (expression_symbols scope x) (of_expressions scope xs) all))

  any_expression : (e : Option Expr) → All In (of_expression scope e) → IfSome e (ExprIn scope symbols)
  unfolding ExprIn
  any_expression None all = tt
  any_expression (Some e) all = all

  any_statement : (t : Option Stmt) → All In (of_any (option_map (symbols_of scope) t)) → IfSome t (StmtIn scope symbols)
  unfolding StmtIn
  any_statement None all = tt
  any_statement (Some t) all = all

  any_list : (ss : Option (List Stmt)) → All In (of_arguments (option_map (map (symbols_of scope)) ss)) → IfSome ss (All (StmtIn scope symbols))
  any_list None all = tt
  any_list (Some ss) all = each ss all

  -- a statement in braces
  pub in_block : (at : Place) (body : List Stmt) → StmtIn scope symbols (s.Block at body) → All (StmtIn scope symbols) body
  unfolding StmtIn
  in_block at body all = each body (subst (λ (l : List SymbolId). All In l) (block_symbols scope at body) all)

  pub in_if : (at : Place) (condition : Expr) (body : Stmt) (other : Option Stmt) → StmtIn scope symbols (s.If at condition body other)
      → ExprIn scope symbols condition × StmtIn scope symbols body × IfSome other (StmtIn scope symbols)
  unfolding StmtIn ExprIn
  in_if at condition body other all =
      let one = expression_symbols scope condition in let two = symbols_of scope body in let three = of_any (option_map (symbols_of scope) other) in
      let both = subst (λ (l : List SymbolId). All In l) (if_symbols scope at condition body other) all in
      let first = front In (one ++ two) three both in
      (front In one two first, back In one two first, any_statement other (back In (one ++ two) three both))

  pub in_while : (at : Place) (condition : Expr) (body : Stmt) → StmtIn scope symbols (s.While at condition body) → ExprIn scope symbols condition × StmtIn scope symbols body
  unfolding StmtIn ExprIn
  in_while at condition body all =
      let both = subst (λ (l : List SymbolId). All In l) (while_symbols scope at condition body) all in
      (front In (expression_symbols scope condition) (symbols_of scope body) both, back In (expression_symbols scope condition) (symbols_of scope body) both)

  pub in_do : (at : Place) (body : Stmt) (condition : Expr) → StmtIn scope symbols (s.DoWhile at body condition) → StmtIn scope symbols body × ExprIn scope symbols condition
  unfolding StmtIn ExprIn
  in_do at body condition all =
      let both = subst (λ (l : List SymbolId). All In l) (do_symbols scope at body condition) all in
      (front In (symbols_of scope body) (expression_symbols scope condition) both, back In (symbols_of scope body) (expression_symbols scope condition) both)

  pub in_for : (at : Place) (start : List Expr) (condition : Option Expr) (steps : List Expr) (body : Stmt) → StmtIn scope symbols (s.For at start condition steps body)
      → All (ExprIn scope symbols) start × IfSome condition (ExprIn scope symbols) × All (ExprIn scope symbols) steps × StmtIn scope symbols body
  unfolding StmtIn
  in_for at start condition steps body all =
      let one = of_expressions scope start in let two = of_expression scope condition in let three = of_expressions scope steps in let four = symbols_of scope body in
      let whole = subst (λ (l : List SymbolId). All In l) (for_symbols scope at start condition steps body) all in
      let before = front In (one ++ two ++ three) four whole in let first = front In (one ++ two) three before in
      (each_expression start (front In one two first), any_expression condition (back In one two first), each_expression steps (back In (one ++ two) three before), back In (one ++ two ++ three) four whole)

  pub in_foreach : (at : Place) (subject : Expr) (key : Option DeclaredName) (value : DeclaredName) (body : Stmt) → StmtIn scope symbols (s.Foreach at subject key value body)
      → ExprIn scope symbols subject × StmtIn scope symbols body
  unfolding StmtIn ExprIn
  in_foreach at subject key value body all =
      let both = subst (λ (l : List SymbolId). All In l) (foreach_symbols scope at subject key value body) all in
      (front In (expression_symbols scope subject) (symbols_of scope body) both, back In (expression_symbols scope subject) (symbols_of scope body) both)

  pub in_switch : (at : Place) (subject : Expr) (cases : List Case) → StmtIn scope symbols (s.Switch at subject cases) → ExprIn scope symbols subject × All (CaseIn scope symbols) cases
  unfolding StmtIn ExprIn
  in_switch at subject cases all =
      let one = expression_symbols scope subject in let two = of_all (map (case_symbols_of scope) cases) in
      let both = subst (λ (l : List SymbolId). All In l) (switch_symbols scope at subject cases) all in
      (front In one two both, each_case cases (back In one two both))

  pub in_return : (at : Place) (value : Option Expr) → StmtIn scope symbols (s.Return at value) → IfSome value (ExprIn scope symbols)
  unfolding StmtIn
  in_return at value all = any_expression value (subst (λ (l : List SymbolId). All In l) (return_symbols scope at value) all)

  pub in_throw : (at : Place) (value : Expr) → StmtIn scope symbols (s.Throw at value) → IsTrue (symbols (class_symbol 4)) × ExprIn scope symbols value
  unfolding StmtIn ExprIn
  in_throw at value all =
      let both = subst (λ (l : List SymbolId). All In l) (throw_symbols scope at value) all in
      (All-head In (class_symbol 4) [] (front In of_throwable (expression_symbols scope value) both), back In of_throwable (expression_symbols scope value) both)

  pub in_echo : (at : Place) (values : List Expr) → StmtIn scope symbols (s.Echo at values) → All (ExprIn scope symbols) values
  unfolding StmtIn
  in_echo at values all = each_expression values (subst (λ (l : List SymbolId). All In l) (echo_symbols scope at values) all)

  pub in_expression : (at : Place) (expression : Expr) → StmtIn scope symbols (s.Expression at expression) → ExprIn scope symbols expression
  unfolding StmtIn ExprIn
  in_expression at expression all = subst (λ (l : List SymbolId). All In l) (expression_symbols_are scope at expression) all

  pub in_try : (at : Place) (body : List Stmt) (catches : List Catch) (last : Option (List Stmt)) → StmtIn scope symbols (s.Try at body catches last)
      → All (StmtIn scope symbols) body × All (CatchIn scope symbols) catches × IfSome last (All (StmtIn scope symbols))
  unfolding StmtIn
  in_try at body catches last all =
      let one = of_all (map (symbols_of scope) body) in let two = of_all (map (catch_symbols_of scope) catches) in let three = of_arguments (option_map (map (symbols_of scope)) last) in
      let whole = subst (λ (l : List SymbolId). All In l) (try_symbols scope at body catches last) all in
      let first = front In (one ++ two) three whole in
      (each body (front In one two first), each_catch catches (back In one two first), any_list last (back In (one ++ two) three whole))

  pub in_case : (c : Case) → CaseIn scope symbols c → IfSome c.value (ExprIn scope symbols) × All (StmtIn scope symbols) c.body
  unfolding CaseIn
  in_case c all =
      let one = of_expression scope c.value in let two = of_all (map (symbols_of scope) c.body) in
      let both = subst (λ (l : List SymbolId). All In l) (case_symbols scope c) all in
      (any_expression c.value (front In one two both), each c.body (back In one two both))

  pub in_catch : (c : Catch) → CatchIn scope symbols c → IsTrue (symbols (class_symbol 4)) × ClassIn (names_of scope) symbols c.class × All (StmtIn scope symbols) c.body
  unfolding CatchIn ClassIn
  in_catch c all =
      let two = class_symbols_of (names_of scope) c.class in let three = of_all (map (symbols_of scope) c.body) in
      let both = subst (λ (l : List SymbolId). All In l) (catch_symbols scope c) all in
      let first = front In (of_throwable ++ two) three both in
      (All-head In (class_symbol 4) [] (front In of_throwable two first), back In of_throwable two first, each c.body (back In (of_throwable ++ two) three both))
