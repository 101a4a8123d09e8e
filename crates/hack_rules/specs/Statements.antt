-- Statements: one line a row of docs/language.md, Typing statements, tied over the tree.
use Rattle.std.specs.Prelude.{ℕ, nat_le, true, if◌then◌else◌, Option, Some, None, List, [], ◌∷◌, ◌++◌, map, option_map, is_none, codes}
use Rattle.std.specs.List.{flat_map, list_any}
use Rattle.hack_tree.specs.declared.declaration.DeclaredName.{DeclaredName}
use Rattle.hack_tree.specs.declared.expression.Expr.{Expr}
use Rattle.hack_tree.specs.declared.statement.Stmt.{Stmt}
use Rattle.hack_tree.specs.declared.statement.Stmt.TheOpen.{Stmt-F, Case-F, Catch-F}
use Rattle.hack_tree.specs.declared.statement.Stmt.TheFolds.{fold-Stmt}
use Rattle.hack_tree.specs.declared.written_type.ClassType.{ClassType, out-ClassType}
use Rattle.hack_types.specs.SameType.{same_type}
use Rattle.hack_types.specs.declared.hack_type.HackType.{HackType}
use Rattle.hack_types.specs.declared.hack_type.HackType.TheVariants as type
use Rattle.hack_types.specs.declared.place.Place.{Place}
use Rattle.hack_rules.specs.Ends.{Doing, Ends, Inside, block, either_end, ends_here, no_ends, outside, with_leaves}
use Rattle.hack_rules.specs.Expressions.{meaning_of}
use Rattle.hack_rules.specs.Loops.{do_ends, for_ends, foreach_ends, while_ends}
use Rattle.hack_rules.specs.Meanings.{Meaning, assigned_in_any}
use Rattle.hack_diag.specs.Messages.{outside_loop}
use Rattle.hack_rules.specs.Values.{assigned_in_all}
use Rattle.hack_rules.specs.Variables.{Variables, either, joined, mixed_in, taking}
use Rattle.hack_rules.specs.Walks.{Walk, ◌>>=◌, ◌>>◌, pure, reads, assign, each, expect, replace, unless, variables}
use Rattle.hack_rules.specs.WrittenTypes.{written_class}

-- what is assigned in a block
abbrev pub assigned_in_block : List Doing → List ℕ
assigned_in_block body = flat_map (λ statement. statement.assigned) body

-- ---- if

-- without `else` the false branch ends here
abbrev pub otherwise_ends : Option Doing → Inside → Walk Ends
otherwise_ends None inside = ends_here
otherwise_ends (Some statement) inside = statement.ends inside

-- `if (condition) body else other`
unfoldable pub if_ends : Meaning → Doing → Option Doing → Inside → Walk Ends
if_ends condition body other inside = do
  branches ← condition.branches
  replace branches.when_true
  first ← body.ends inside
  replace branches.when_false
  second ← otherwise_ends other inside
  pure (either_end first second)

-- what is assigned in a statement, where there is one
abbrev pub assigned_in_option : Option Doing → List ℕ
assigned_in_option None = []
assigned_in_option (Some statement) = statement.assigned

-- ---- switch

-- a case: what the subject is compared with, nothing for `default`
pub record CaseMeaning : Type 0 where
  pub value : Option Meaning
  pub body : List Doing

-- its type is not asked for
abbrev pub value_by : Option Meaning → Walk (Unit {0})
value_by None = pure tt
value_by (Some value) = do
  value.walk
  pure tt

-- what a case compares with is typed
abbrev pub value_walk : CaseMeaning → Walk (Unit {0})
value_walk c = value_by c.value

-- the normal end of the case before joins, where there is one
abbrev pub start_of : Variables → Option Variables → Variables
start_of start None = start
start_of start (Some before) = joined start before

-- each case begins behind the subject and all that it is compared with, joined with the normal end of the case before
unfoldable pub cases_from : Variables → Inside → List CaseMeaning → Ends → Walk Ends
cases_from start inside [] so_far = pure so_far
cases_from start inside (c ∷ cases) so_far = do
  replace (start_of start so_far.normal)
  ends ← block c.body (record inside { breakable = true })
  cases_from start inside cases (with_leaves so_far ends ends.normal)

-- without `default` the environment behind the subject joins
abbrev pub without_default : List CaseMeaning → Variables → Option Variables
without_default cases behind = if list_any (λ c. is_none c.value) cases then None else Some behind

-- behind it stand the breaks, the last normal end, and the subject's
unfoldable pub switch_ends : Meaning → List CaseMeaning → Inside → Walk Ends
switch_ends subject cases inside = do
  subject.walk
  behind ← variables
  each value_walk cases
  start ← variables
  ends ← cases_from start inside cases no_ends
  pure (record ends { normal = either (either ends.breaks ends.normal) (without_default cases behind); breaks = None })

-- what is assigned in cases
abbrev pub assigned_in_cases : List CaseMeaning → List ℕ
assigned_in_cases cases = flat_map (λ c. assigned_in_any c.value ++ assigned_in_block c.body) cases

-- ---- try

-- a catch: the type that is caught, its variable, and its body
pub record CatchMeaning : Type 0 where
  pub class : ClassType
  pub variable : ℕ
  pub body : List Doing

-- the id of the name `Throwable`
abbrev pub throwable : HackType
throwable = type.Class 4 []

-- a catch begins with the entry, where what the body assigns is `mixed`; the caught type must be below `Throwable`
unfoldable pub catch_ends : List ℕ → Variables → CatchMeaning → Inside → Walk Ends
catch_ends assigned entry c inside = do
  replace (mixed_in assigned entry)
  caught ← written_class c.class
  expect (out-ClassType c.class).at throwable caught
  assign c.variable caught
  block c.body inside

-- the catches in order
unfoldable pub catches_from : List ℕ → Variables → List CatchMeaning → Inside → Ends → Walk Ends
catches_from assigned entry [] inside so_far = pure so_far
catches_from assigned entry (c ∷ catches) inside so_far = do
  ends ← catch_ends assigned entry c inside
  catches_from assigned entry catches inside (either_end so_far ends)

-- what is assigned in catches, their variables among them
abbrev pub assigned_in_catches : List CatchMeaning → List ℕ
assigned_in_catches catches = flat_map (λ c. c.variable ∷ assigned_in_block c.body) catches

-- behind a `finally` that ends normally its variables have its types; behind one that doesn't there is no normal end
abbrev pub behind_last : List ℕ → Option Variables → Option Variables → Option Variables
behind_last assigned None before = None
behind_last assigned (Some last) before = option_map (taking assigned last) before

-- `finally` begins with the entry, where what the body and the catches assign is `mixed`
unfoldable pub last_ends : List ℕ → Variables → Ends → Option (List Doing) → Inside → Walk Ends
last_ends assigned entry so_far None inside = pure so_far
last_ends assigned entry so_far (Some body) inside = do
  replace (mixed_in assigned entry)
  ends ← block body inside
  pure (with_leaves so_far ends (behind_last (assigned_in_block body) ends.normal so_far.normal))

-- `try`, `catch`, `finally`
unfoldable pub try_ends : List Doing → List CatchMeaning → Option (List Doing) → Inside → Walk Ends
try_ends body catches last inside = do
  entry ← variables
  ends ← block body inside
  caught ← catches_from (assigned_in_block body) entry catches inside ends
  last_ends (assigned_in_block body ++ assigned_in_catches catches) entry caught last inside

-- what is assigned in `finally`
abbrev pub assigned_in_last : Option (List Doing) → List ℕ
assigned_in_last None = []
assigned_in_last (Some body) = assigned_in_block body

-- ---- what leaves a body or a loop

-- `return e` expects the result type, and `return` counts as `void`
unfoldable pub return_ends : Place → Option Meaning → Walk Ends
return_ends at None = do
  result ← reads (λ m scope. scope.result)
  expect at result type.Void
  pure no_ends
return_ends at (Some value) = do
  ty ← value.walk
  result ← reads (λ m scope. scope.result)
  expect value.at result ty
  pure no_ends

-- `throw e` expects `Throwable`
unfoldable pub throw_ends : Meaning → Walk Ends
throw_ends value = do
  ty ← value.walk
  expect value.at throwable ty
  pure no_ends

-- a break in any case; 4019 outside of loops and of a `switch`
unfoldable pub break_ends : Place → Inside → Walk Ends
break_ends at inside = do
  unless inside.breakable at (outside_loop (codes "break"))
  here ← variables
  pure (record no_ends { breaks = Some here })

-- a continue in any case; 4019 outside of loops
unfoldable pub continue_ends : Place → Inside → Walk Ends
continue_ends at inside = do
  unless (nat_le 1 inside.loops) at (outside_loop (codes "continue"))
  here ← variables
  pure (record no_ends { continues = Some here })

-- ---- expressions

-- `echo` expects nothing
unfoldable pub echo_ends : List Meaning → Walk Ends
echo_ends values = do
  each (λ value. value.walk) values
  ends_here

-- behind one of exactly the type `nothing` no path goes on
unfoldable pub expression_ends : Meaning → Walk Ends
expression_ends expression = do
  ty ← expression.walk
  if same_type type.Nothing ty then pure no_ends else ends_here

-- ---- the tree

-- nothing is assigned in it
abbrev pub nothing_assigned : (Inside → Walk Ends) → Doing
nothing_assigned ends = record { ends = ends; assigned = [] }

-- what is assigned in its expression
abbrev pub expression_doing : Meaning → (Meaning → Walk Ends) → Doing
expression_doing meaning ends = record { ends = λ inside. ends meaning; assigned = meaning.assigned }

-- the key's variable
abbrev pub key_name : Option DeclaredName → Option ℕ
key_name key = option_map (λ name. name.name) key

-- the same as a list
abbrev pub key_names : Option DeclaredName → List ℕ
key_names None = []
key_names (Some name) = name.name ∷ []

-- `while`
abbrev pub while_doing : Place → Meaning → Doing → Doing
while_doing at condition body = record { ends = while_ends at condition body; assigned = condition.assigned ++ body.assigned }

-- `do`
abbrev pub do_doing : Place → Doing → Meaning → Doing
do_doing at body condition = record { ends = do_ends at body condition; assigned = body.assigned ++ condition.assigned }

-- `for`
abbrev pub for_doing : Place → List Meaning → Option Meaning → List Meaning → Doing → Doing
for_doing at start condition steps body = record {
  ends = for_ends at start condition steps body;
  assigned = assigned_in_all start ++ assigned_in_any condition ++ assigned_in_all steps ++ body.assigned;
}

-- `foreach`
abbrev pub foreach_doing : Place → Meaning → Option DeclaredName → DeclaredName → Doing → Doing
foreach_doing at subject key value body = record {
  ends = foreach_ends at subject (key_name key) value.name body;
  assigned = subject.assigned ++ key_names key ++ value.name ∷ body.assigned;
}

-- `if`
abbrev pub if_doing : Meaning → Doing → Option Doing → Doing
if_doing condition body other = record {
  ends = if_ends condition body other;
  assigned = condition.assigned ++ body.assigned ++ assigned_in_option other;
}

-- `switch`
abbrev pub switch_doing : Meaning → List CaseMeaning → Doing
switch_doing subject cases = record { ends = switch_ends subject cases; assigned = subject.assigned ++ assigned_in_cases cases }

-- `try`
abbrev pub try_doing : List Doing → List CatchMeaning → Option (List Doing) → Doing
try_doing body catches last = record {
  ends = try_ends body catches last;
  assigned = assigned_in_block body ++ assigned_in_catches catches ++ assigned_in_last last;
}

-- `return`
abbrev pub return_doing : Place → Option Meaning → Doing
return_doing at value = record { ends = λ inside. return_ends at value; assigned = assigned_in_any value }

-- expressions to those around them
abbrev pub meanings_of : List Expr → List Meaning
meanings_of expressions = map meaning_of expressions

-- one line a row
unfoldable pub statement_by : Stmt-F Doing CaseMeaning CatchMeaning → Doing
statement_by (Stmt-F.Block at body) = record { ends = block body; assigned = assigned_in_block body }
statement_by (Stmt-F.Empty at) = nothing_assigned (λ inside. ends_here)
statement_by (Stmt-F.If at condition body other) = if_doing (meaning_of condition) body other
statement_by (Stmt-F.While at condition body) = while_doing at (meaning_of condition) body
statement_by (Stmt-F.DoWhile at body condition) = do_doing at body (meaning_of condition)
statement_by (Stmt-F.For at start condition steps body) =
    for_doing at (meanings_of start) (option_map meaning_of condition) (meanings_of steps) body
statement_by (Stmt-F.Foreach at subject key value body) = foreach_doing at (meaning_of subject) key value body
statement_by (Stmt-F.Switch at subject cases) = switch_doing (meaning_of subject) cases
statement_by (Stmt-F.Return at value) = return_doing at (option_map meaning_of value)
statement_by (Stmt-F.Throw at value) = expression_doing (meaning_of value) throw_ends
statement_by (Stmt-F.Break at) = nothing_assigned (break_ends at)
statement_by (Stmt-F.Continue at) = nothing_assigned (continue_ends at)
statement_by (Stmt-F.Echo at values) =
    record { ends = λ inside. echo_ends (meanings_of values); assigned = assigned_in_all (meanings_of values) }
statement_by (Stmt-F.Expression at expression) = expression_doing (meaning_of expression) expression_ends
statement_by (Stmt-F.Try at body catches last) = try_doing body catches last

-- a case
abbrev pub case_by : Case-F Doing CaseMeaning CatchMeaning → CaseMeaning
case_by c = record { value = option_map meaning_of c.value; body = c.body }

-- a catch
abbrev pub catch_by : Catch-F Doing CaseMeaning CatchMeaning → CatchMeaning
catch_by c = record { class = c.class; variable = c.variable.name; body = c.body }

-- what a statement is to those around it
abbrev pub doing_of : Stmt → Doing
doing_of = fold-Stmt Doing CaseMeaning CatchMeaning statement_by case_by catch_by

-- the judgement of a statement: its ends, and the diagnostics behind it
unfoldable pub statement : Stmt → Inside → Walk Ends
statement s inside = (doing_of s).ends inside

-- the same of a statement by itself
unfoldable pub judged_statement : Stmt → Walk Ends
judged_statement s = statement s outside
