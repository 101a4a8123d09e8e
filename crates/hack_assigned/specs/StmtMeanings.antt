-- What the judgement makes of each form of statement, by what it makes of its parts.
use Rattle.std.proofs.Common.{◌≡◌, ◌∙◌, Option, Some, None, List, map, option_map, sym, ap}
use Rattle.hack_tree.specs.declared.declaration.DeclaredName.{DeclaredName}
use Rattle.hack_tree.specs.declared.expression.Expr.{Expr}
use Rattle.hack_tree.specs.declared.statement.Case.{Case}
use Rattle.hack_tree.specs.declared.statement.Catch.{Catch}
use Rattle.hack_tree.specs.declared.statement.Stmt.{Stmt}
use Rattle.hack_tree.specs.declared.statement.Stmt.TheFolds.{fold-roll-Stmt, fold_out-Case, fold_out-Catch}
use Rattle.hack_tree.specs.declared.statement.Stmt.TheOpen.{Stmt-F}
use Rattle.hack_tree.specs.declared.statement.Stmt.TheVariants as s
use Rattle.hack_types.specs.declared.place.Place.{Place}
use Rattle.hack_rules.specs.Ends.{Doing, block as block_ends, ends_here}
use Rattle.hack_rules.specs.Expressions.{meaning_of}
use Rattle.hack_rules.specs.Statements.{CaseMeaning, CatchMeaning, assigned_in_block, break_ends, case_by, catch_by, continue_ends, do_doing, doing_of, echo_ends, expression_doing, expression_ends, for_doing, foreach_doing, if_doing, meanings_of, nothing_assigned, return_doing, statement_by, switch_doing, throw_ends, try_doing, while_doing}
use Rattle.hack_rules.specs.Values.{assigned_in_all}
use Rattle.hack_assigned.specs.StmtParts.{case_of, catch_of}

pub block_is : (at : Place) (body : List Stmt) → doing_of (s.Block at body) ≡ record { ends = block_ends (map doing_of body); assigned = assigned_in_block (map doing_of body) }
unfolding statement_by
block_is at body = ap doing_of (sym (s.rolls-Block at body)) ∙ fold-roll-Stmt Doing CaseMeaning CatchMeaning statement_by case_by catch_by (Stmt-F.Block at body)

pub empty_is : (at : Place) → doing_of (s.Empty at) ≡ nothing_assigned (λ inside. ends_here)
unfolding statement_by
empty_is at = ap doing_of (sym (s.rolls-Empty at)) ∙ fold-roll-Stmt Doing CaseMeaning CatchMeaning statement_by case_by catch_by (Stmt-F.Empty at)

pub if_alone_is : (at : Place) (condition : Expr) (body : Stmt) → doing_of (s.If at condition body None) ≡ if_doing (meaning_of condition) (doing_of body) None
unfolding statement_by
if_alone_is at condition body = ap doing_of (sym (s.rolls-If at condition body None)) ∙ fold-roll-Stmt Doing CaseMeaning CatchMeaning statement_by case_by catch_by (Stmt-F.If at condition body None)

pub if_else_is : (at : Place) (condition : Expr) (body other : Stmt) → doing_of (s.If at condition body (Some other)) ≡ if_doing (meaning_of condition) (doing_of body) (Some (doing_of other))
unfolding statement_by
if_else_is at condition body other = ap doing_of (sym (s.rolls-If at condition body (Some other))) ∙ fold-roll-Stmt Doing CaseMeaning CatchMeaning statement_by case_by catch_by (Stmt-F.If at condition body (Some other))

pub while_is : (at : Place) (condition : Expr) (body : Stmt) → doing_of (s.While at condition body) ≡ while_doing at (meaning_of condition) (doing_of body)
unfolding statement_by
while_is at condition body = ap doing_of (sym (s.rolls-While at condition body)) ∙ fold-roll-Stmt Doing CaseMeaning CatchMeaning statement_by case_by catch_by (Stmt-F.While at condition body)

pub do_while_is : (at : Place) (body : Stmt) (condition : Expr) → doing_of (s.DoWhile at body condition) ≡ do_doing at (doing_of body) (meaning_of condition)
unfolding statement_by
do_while_is at body condition = ap doing_of (sym (s.rolls-DoWhile at body condition)) ∙ fold-roll-Stmt Doing CaseMeaning CatchMeaning statement_by case_by catch_by (Stmt-F.DoWhile at body condition)

pub for_is : (at : Place) (start : List Expr) (condition : Option Expr) (steps : List Expr) (body : Stmt) → doing_of (s.For at start condition steps body) ≡ for_doing at (meanings_of start) (option_map meaning_of condition) (meanings_of steps) (doing_of body)
unfolding statement_by
for_is at start condition steps body = ap doing_of (sym (s.rolls-For at start condition steps body)) ∙ fold-roll-Stmt Doing CaseMeaning CatchMeaning statement_by case_by catch_by (Stmt-F.For at start condition steps body)

pub foreach_is : (at : Place) (subject : Expr) (key : Option DeclaredName) (value : DeclaredName) (body : Stmt) → doing_of (s.Foreach at subject key value body) ≡ foreach_doing at (meaning_of subject) key value (doing_of body)
unfolding statement_by
foreach_is at subject key value body = ap doing_of (sym (s.rolls-Foreach at subject key value body)) ∙ fold-roll-Stmt Doing CaseMeaning CatchMeaning statement_by case_by catch_by (Stmt-F.Foreach at subject key value body)

pub switch_is : (at : Place) (subject : Expr) (cases : List Case) → doing_of (s.Switch at subject cases) ≡ switch_doing (meaning_of subject) (map case_of cases)
unfolding statement_by
switch_is at subject cases = ap doing_of (sym (s.rolls-Switch at subject cases)) ∙ fold-roll-Stmt Doing CaseMeaning CatchMeaning statement_by case_by catch_by (Stmt-F.Switch at subject cases)

pub return_is : (at : Place) (value : Option Expr) → doing_of (s.Return at value) ≡ return_doing at (option_map meaning_of value)
unfolding statement_by
return_is at value = ap doing_of (sym (s.rolls-Return at value)) ∙ fold-roll-Stmt Doing CaseMeaning CatchMeaning statement_by case_by catch_by (Stmt-F.Return at value)

pub throw_is : (at : Place) (value : Expr) → doing_of (s.Throw at value) ≡ expression_doing (meaning_of value) throw_ends
unfolding statement_by
throw_is at value = ap doing_of (sym (s.rolls-Throw at value)) ∙ fold-roll-Stmt Doing CaseMeaning CatchMeaning statement_by case_by catch_by (Stmt-F.Throw at value)

pub break_is : (at : Place) → doing_of (s.Break at) ≡ nothing_assigned (break_ends at)
unfolding statement_by
break_is at = ap doing_of (sym (s.rolls-Break at)) ∙ fold-roll-Stmt Doing CaseMeaning CatchMeaning statement_by case_by catch_by (Stmt-F.Break at)

pub continue_is : (at : Place) → doing_of (s.Continue at) ≡ nothing_assigned (continue_ends at)
unfolding statement_by
continue_is at = ap doing_of (sym (s.rolls-Continue at)) ∙ fold-roll-Stmt Doing CaseMeaning CatchMeaning statement_by case_by catch_by (Stmt-F.Continue at)

pub echo_is : (at : Place) (values : List Expr) → doing_of (s.Echo at values) ≡ record { ends = λ inside. echo_ends (meanings_of values); assigned = assigned_in_all (meanings_of values) }
unfolding statement_by
echo_is at values = ap doing_of (sym (s.rolls-Echo at values)) ∙ fold-roll-Stmt Doing CaseMeaning CatchMeaning statement_by case_by catch_by (Stmt-F.Echo at values)

pub expression_is : (at : Place) (expression : Expr) → doing_of (s.Expression at expression) ≡ expression_doing (meaning_of expression) expression_ends
unfolding statement_by
expression_is at expression = ap doing_of (sym (s.rolls-Expression at expression)) ∙ fold-roll-Stmt Doing CaseMeaning CatchMeaning statement_by case_by catch_by (Stmt-F.Expression at expression)

pub try_alone_is : (at : Place) (body : List Stmt) (catches : List Catch) → doing_of (s.Try at body catches None) ≡ try_doing (map doing_of body) (map catch_of catches) None
unfolding statement_by
try_alone_is at body catches = ap doing_of (sym (s.rolls-Try at body catches None)) ∙ fold-roll-Stmt Doing CaseMeaning CatchMeaning statement_by case_by catch_by (Stmt-F.Try at body catches None)

pub try_last_is : (at : Place) (body : List Stmt) (catches : List Catch) (last : List Stmt) → doing_of (s.Try at body catches (Some last)) ≡ try_doing (map doing_of body) (map catch_of catches) (Some (map doing_of last))
unfolding statement_by
try_last_is at body catches last = ap doing_of (sym (s.rolls-Try at body catches (Some last))) ∙ fold-roll-Stmt Doing CaseMeaning CatchMeaning statement_by case_by catch_by (Stmt-F.Try at body catches (Some last))

-- the parts of a form
pub case_is : (c : Case) → case_of c ≡ record { value = option_map meaning_of c.value; body = map doing_of c.body }
case_is c = fold_out-Case Doing CaseMeaning CatchMeaning statement_by case_by catch_by c

pub catch_is : (c : Catch) → catch_of c ≡ record { class = c.class; variable = c.variable.name; body = map doing_of c.body }
catch_is c = fold_out-Catch Doing CaseMeaning CatchMeaning statement_by case_by catch_by c
