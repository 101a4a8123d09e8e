-- What is assigned in each form of statement.
use Rattle.std.proofs.Common.{◌≡◌, ◌∙◌, ◌++◌, ◌∷◌, ℕ, Option, Some, None, List, [], map, option_map, refl, sym, ap}
use Rattle.std.specs.List.{flat_map}
use Rattle.std.proofs.lemmas.List.Folds.{flat_map-map}
use Rattle.hack_tree.specs.declared.declaration.DeclaredName.{DeclaredName}
use Rattle.hack_tree.specs.declared.expression.Expr.{Expr}
use Rattle.hack_tree.specs.declared.statement.Case.{Case}
use Rattle.hack_tree.specs.declared.statement.Catch.{Catch}
use Rattle.hack_tree.specs.declared.statement.Stmt.{Stmt}
use Rattle.hack_tree.specs.declared.statement.Stmt.TheVariants as s
use Rattle.hack_types.specs.declared.place.Place.{Place}
use Rattle.hack_rules.specs.Ends.{Doing}
use Rattle.hack_rules.specs.Expressions.{meaning_of}
use Rattle.hack_rules.specs.Meanings.{assigned_in_any}
use Rattle.hack_rules.specs.Statements.{CaseMeaning, CatchMeaning, assigned_in_block, assigned_in_cases, assigned_in_catches, doing_of, key_names}
use Rattle.hack_rules.specs.Values.{assigned_in_all}
use Rattle.hack_assigned.specs.StmtMeanings as one
use Rattle.hack_assigned.specs.StmtParts.{case_of, catch_of}
use Rattle.hack_assigned.specs.inside.Parts.{in_any, in_case, in_catch, in_each, in_expression, in_statement}
use Rattle.hack_assigned.proofs.Suffixed.{each_is}

abbrev assigned_of : Doing → List ℕ
assigned_of doing = doing.assigned

-- by what a statement means
pub by_meaning : {whole form : Stmt} {m : Doing} → whole ≡ form → doing_of form ≡ m → m.assigned ≡ in_statement whole
by_meaning is what = sym (ap in_statement is ∙ ap assigned_of what)

pub block_is : (statements : List Stmt) → flat_map in_statement statements ≡ assigned_in_block (map doing_of statements)
block_is statements = sym (flat_map-map assigned_of doing_of statements)

pub cases_are : (cases : List Case) → flat_map in_case cases ≡ assigned_in_cases (map case_of cases)
cases_are cases = sym (flat_map-map (λ (c : CaseMeaning). assigned_in_any c.value ++ assigned_in_block c.body) case_of cases)

pub catches_are : (catches : List Catch) → flat_map in_catch catches ≡ assigned_in_catches (map catch_of catches)
catches_are catches = sym (flat_map-map (λ (c : CatchMeaning). c.variable ∷ assigned_in_block c.body) catch_of catches)

any_is : (e : Option Expr) → in_any e ≡ assigned_in_any (option_map meaning_of e)
any_is None = refl
any_is (Some e) = refl

pub one_case : {value : Option Expr} {slice : List Stmt} (c : Case) → value ≡ c.value → slice ≡ c.body → in_any value ++ flat_map in_statement slice ≡ in_case c
one_case {slice = slice} c there body =
    ap (λ v. in_any v ++ flat_map in_statement slice) there ∙ ap (λ b. in_any c.value ++ flat_map in_statement b) body
    ∙ ap (λ l. l ++ flat_map in_statement c.body) (any_is c.value) ∙ ap (λ l. assigned_in_any (option_map meaning_of c.value) ++ l) (block_is c.body)
    ∙ sym (ap (λ (m : CaseMeaning). assigned_in_any m.value ++ assigned_in_block m.body) (one.case_is c))

pub one_catch : {slice : List Stmt} (c : Catch) → slice ≡ c.body → (c.variable.name ∷ []) ++ flat_map in_statement slice ≡ in_catch c
one_catch c body =
    ap (λ b. c.variable.name ∷ flat_map in_statement b) body ∙ ap (λ l. c.variable.name ∷ l) (block_is c.body)
    ∙ sym (ap (λ (m : CatchMeaning). m.variable ∷ assigned_in_block m.body) (one.catch_is c))

-- ---- the forms

pub of_block : {whole : Stmt} {at : Place} {slice body : List Stmt} → whole ≡ s.Block at body → slice ≡ body → flat_map in_statement slice ≡ in_statement whole
of_block {at = at} {body = body} is same = ap (flat_map in_statement) same ∙ block_is body ∙ by_meaning is (one.block_is at body)

pub of_if : {whole t then : Stmt} {at : Place} {condition : Expr} {given : Option Stmt} → whole ≡ s.If at condition then given → given ≡ None → t ≡ then
    → in_expression condition ++ in_statement t ++ [] ≡ in_statement whole
of_if {then = then} {at = at} {condition = condition} is none same =
    ap (λ (x : Stmt). in_expression condition ++ in_statement x ++ []) same
    ∙ by_meaning (is ∙ ap (λ (g : Option Stmt). s.If at condition then g) none) (one.if_alone_is at condition then)

pub of_else : {whole t o then other : Stmt} {at : Place} {condition : Expr} {given : Option Stmt} → whole ≡ s.If at condition then given → given ≡ Some other → t ≡ then → o ≡ other
    → in_expression condition ++ in_statement t ++ in_statement o ≡ in_statement whole
of_else {o = o} {then = then} {other = other} {at = at} {condition = condition} is some same second =
    ap (λ (x : Stmt). in_expression condition ++ in_statement x ++ in_statement o) same ∙ ap (λ (x : Stmt). in_expression condition ++ in_statement then ++ in_statement x) second
    ∙ by_meaning (is ∙ ap (λ (g : Option Stmt). s.If at condition then g) some) (one.if_else_is at condition then other)

pub of_while : {whole b body : Stmt} {at : Place} {condition : Expr} → whole ≡ s.While at condition body → b ≡ body → in_expression condition ++ in_statement b ≡ in_statement whole
of_while {body = body} {at = at} {condition = condition} is same =
    ap (λ (x : Stmt). in_expression condition ++ in_statement x) same ∙ by_meaning is (one.while_is at condition body)

pub of_do : {whole b body : Stmt} {at : Place} {condition : Expr} → whole ≡ s.DoWhile at body condition → b ≡ body → in_statement b ++ in_expression condition ≡ in_statement whole
of_do {body = body} {at = at} {condition = condition} is same =
    ap (λ (x : Stmt). in_statement x ++ in_expression condition) same ∙ by_meaning is (one.do_while_is at body condition)

pub of_for : {whole b body : Stmt} {at : Place} {given start : List Expr} {condition : Option Expr} {later steps : List Expr} → whole ≡ s.For at start condition steps body
    → given ≡ start → later ≡ steps → b ≡ body → in_each given ++ in_any condition ++ in_each later ++ in_statement b ≡ in_statement whole
of_for {b = b} {body = body} {at = at} {start = start} {condition = condition} {later = later} {steps = steps} is first second same =
    ap (λ l. in_each l ++ in_any condition ++ in_each later ++ in_statement b) first ∙ ap (λ l. in_each start ++ in_any condition ++ in_each l ++ in_statement b) second
    ∙ ap (λ (x : Stmt). in_each start ++ in_any condition ++ in_each steps ++ in_statement x) same
    ∙ ap (λ l. l ++ in_any condition ++ in_each steps ++ in_statement body) (each_is start)
    ∙ ap (λ l. assigned_in_all (map meaning_of start) ++ l ++ in_each steps ++ in_statement body) (any_is condition)
    ∙ ap (λ l. assigned_in_all (map meaning_of start) ++ assigned_in_any (option_map meaning_of condition) ++ l ++ in_statement body) (each_is steps)
    ∙ by_meaning is (one.for_is at start condition steps body)

pub of_foreach : {whole b body : Stmt} {at : Place} {subject : Expr} {key : Option DeclaredName} {value : DeclaredName} → whole ≡ s.Foreach at subject key value body → b ≡ body
    → in_expression subject ++ key_names key ++ value.name ∷ in_statement b ≡ in_statement whole
of_foreach {body = body} {at = at} {subject = subject} {key = key} {value = value} is same =
    ap (λ (x : Stmt). in_expression subject ++ key_names key ++ value.name ∷ in_statement x) same ∙ by_meaning is (one.foreach_is at subject key value body)

pub of_switch : {whole : Stmt} {at : Place} {subject : Expr} {slice cases : List Case} → whole ≡ s.Switch at subject cases → slice ≡ cases
    → in_expression subject ++ flat_map in_case slice ≡ in_statement whole
of_switch {at = at} {subject = subject} {cases = cases} is same =
    ap (λ l. in_expression subject ++ flat_map in_case l) same ∙ ap (λ l. in_expression subject ++ l) (cases_are cases) ∙ by_meaning is (one.switch_is at subject cases)

pub of_return : {whole : Stmt} {at : Place} {value : Option Expr} → whole ≡ s.Return at value → in_any value ≡ in_statement whole
of_return {at = at} {value = value} is = any_is value ∙ by_meaning is (one.return_is at value)

pub of_throw : {whole : Stmt} {at : Place} {value : Expr} → whole ≡ s.Throw at value → in_expression value ≡ in_statement whole
of_throw {at = at} {value = value} is = by_meaning is (one.throw_is at value)

pub of_expression : {whole : Stmt} {at : Place} {value : Expr} → whole ≡ s.Expression at value → in_expression value ≡ in_statement whole
of_expression {at = at} {value = value} is = by_meaning is (one.expression_is at value)

pub of_echo : {whole : Stmt} {at : Place} {slice values : List Expr} → whole ≡ s.Echo at values → slice ≡ values → in_each slice ≡ in_statement whole
of_echo {at = at} {values = values} is same = ap in_each same ∙ each_is values ∙ by_meaning is (one.echo_is at values)

pub of_try : {whole : Stmt} {at : Place} {first body : List Stmt} {second catches : List Catch} {given : Option (List Stmt)} → whole ≡ s.Try at body catches given → given ≡ None
    → first ≡ body → second ≡ catches → flat_map in_statement first ++ flat_map in_catch second ++ [] ≡ in_statement whole
of_try {at = at} {body = body} {second = second} {catches = catches} is none one_same two_same =
    ap (λ l. flat_map in_statement l ++ flat_map in_catch second ++ []) one_same ∙ ap (λ l. flat_map in_statement body ++ flat_map in_catch l ++ []) two_same
    ∙ ap (λ l. l ++ flat_map in_catch catches ++ []) (block_is body) ∙ ap (λ l. assigned_in_block (map doing_of body) ++ l ++ []) (catches_are catches)
    ∙ by_meaning (is ∙ ap (λ (g : Option (List Stmt)). s.Try at body catches g) none) (one.try_alone_is at body catches)

pub of_try_last : {whole : Stmt} {at : Place} {first body third last : List Stmt} {second catches : List Catch} {given : Option (List Stmt)} → whole ≡ s.Try at body catches given
    → given ≡ Some last → first ≡ body → second ≡ catches → third ≡ last → flat_map in_statement first ++ flat_map in_catch second ++ flat_map in_statement third ≡ in_statement whole
of_try_last {at = at} {body = body} {third = third} {last = last} {second = second} {catches = catches} is some one_same two_same three_same =
    ap (λ l. flat_map in_statement l ++ flat_map in_catch second ++ flat_map in_statement third) one_same
    ∙ ap (λ l. flat_map in_statement body ++ flat_map in_catch l ++ flat_map in_statement third) two_same
    ∙ ap (λ l. flat_map in_statement body ++ flat_map in_catch catches ++ flat_map in_statement l) three_same
    ∙ ap (λ l. l ++ flat_map in_catch catches ++ flat_map in_statement last) (block_is body)
    ∙ ap (λ l. assigned_in_block (map doing_of body) ++ l ++ flat_map in_statement last) (catches_are catches)
    ∙ ap (λ l. assigned_in_block (map doing_of body) ++ assigned_in_catches (map catch_of catches) ++ l) (block_is last)
    ∙ by_meaning (is ∙ ap (λ (g : Option (List Stmt)). s.Try at body catches g) some) (one.try_last_is at body catches last)

pub of_empty : {whole : Stmt} (at : Place) → whole ≡ s.Empty at → [] ≡ in_statement whole
of_empty at is = by_meaning is (one.empty_is at)

pub of_break : {whole : Stmt} (at : Place) → whole ≡ s.Break at → [] ≡ in_statement whole
of_break at is = by_meaning is (one.break_is at)

pub of_continue : {whole : Stmt} (at : Place) → whole ≡ s.Continue at → [] ≡ in_statement whole
of_continue at is = by_meaning is (one.continue_is at)
