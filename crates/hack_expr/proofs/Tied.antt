-- A check of the parts that a form of expression has is a check of the form.
use Rattle.std.proofs.Common.{◌≡◌, ◌∙◌, ◌≤◌, ℕ, IsTrue, Result, Option, Some, None, List, All, length, map, refl, sym, ap, subst}
use Rattle.hack_decls.specs.DeclState.{DeclState, Symbols}
use Rattle.hack_decls.specs.Names.{TypeIn}
use Rattle.hack_decls.specs.declared.stop.DeclStop.{DeclStop}
use Rattle.hack_parts.specs.ExprIn.{EntryIn, ExprIn, FieldIn, MemberIn, OperandIn, ReferenceIn, SuffixIn, TestIn}
use Rattle.hack_parts.specs.ExprMeanings as one
use Rattle.hack_parts.specs.Forms.{given_of, joined_of, member_of, pair_of}
use Rattle.hack_parts.specs.PartNames as names
use Rattle.hack_parts.specs.Parts.{value_of, walk_by}
use Rattle.hack_parts.specs.UseNames as uses
use Rattle.hack_parts.specs.declared.reading.Reading.{Reading}
use Rattle.hack_parts.specs.declared.reading.Reading.TheVariants as reading
use Rattle.hack_rules.specs.Chains.{chain_value, conditional_row, not_branches, power_row, prefix_value, short_row}
use Rattle.hack_rules.specs.Expressions.{meaning_of}
use Rattle.hack_rules.specs.Meanings.{Branches, Meaning, plain_branches}
use Rattle.hack_rules.specs.News.{new_row}
use Rattle.hack_rules.specs.Targets.{assigned_by, look_up}
use Rattle.hack_rules.specs.Uses.{call_row}
use Rattle.hack_rules.specs.Values.{cast_row, constant_row, container_row, dict_row, literal_type, shape_row, test_branches, tested_row, this_row, variable_branches}
use Rattle.hack_rules.specs.Walks.{Setting, State, Walk, pure}
use Rattle.hack_rules.specs.WrittenTypes.{names_of}
use Rattle.hack_tree.specs.declared.expression.AssignOperator.{AssignOperator}
use Rattle.hack_tree.specs.declared.expression.CastType.{CastType}
use Rattle.hack_tree.specs.declared.expression.ClassReference.{ClassReference}
use Rattle.hack_tree.specs.declared.expression.Entry.{Entry}
use Rattle.hack_tree.specs.declared.expression.Expr.{Expr}
use Rattle.hack_tree.specs.declared.expression.Expr.TheVariants as e
use Rattle.hack_tree.specs.declared.expression.FieldValue.{FieldValue}
use Rattle.hack_tree.specs.declared.expression.Literal.{Literal}
use Rattle.hack_tree.specs.declared.expression.Operand.{Operand}
use Rattle.hack_tree.specs.declared.expression.PrefixOperator.{PrefixOperator}
use Rattle.hack_tree.specs.declared.expression.PrefixOperator.TheVariants as operator
use Rattle.hack_tree.specs.declared.expression.ScopedMember.{ScopedMember}
use Rattle.hack_tree.specs.declared.expression.Suffix.{Suffix}
use Rattle.hack_tree.specs.declared.expression.TypeTest.{TypeTest}
use Rattle.hack_tree.specs.declared.written_type.Container.{Container}
use Rattle.hack_tree.specs.declared.written_type.WrittenType.{WrittenType}
use Rattle.hack_types.specs.declared.hack_type.HackType.{HackType}
use Rattle.hack_types.specs.declared.ids.Kind.TheVariants.{Const, Func}
use Rattle.hack_types.specs.declared.place.Place.{Place}
use Rattle.hack_walk.specs.Checks.{BranchesIn, Walks}
use Rattle.hack_walk.specs.WalkLaws.{weaker}
use Rattle.hack_written.specs.WrittenIn.{WrittenIn}
use Rattle.hack_uses.specs.Aims.{behind as under}
use Rattle.hack_expr.proofs.Behind.{left_of_scoped, no_postfix}

-- what says the same in both readings
in_both : (r : Reading) (m : Meaning) (walk : Walk HackType) → m.walk ≡ walk → m.left ≡ walk → walk_by r m ≡ walk
in_both reading.Value m walk one left = one
in_both reading.Left m walk one left = left

-- the walk of a form in both readings
by_form : (r : Reading) {whole form : Expr} {m : Meaning} (walk : Walk HackType) → whole ≡ form → meaning_of form ≡ m → m.walk ≡ walk → m.left ≡ walk
    → walk_by r (meaning_of whole) ≡ walk
by_form r {m = m} walk is means one left = ap (λ (x : Expr). walk_by r (meaning_of x)) is ∙ ap (walk_by r) means ∙ in_both r m walk one left

-- an operator before its operand says the same in both readings
left_of_prefix : (at : Place) (o : PrefixOperator) (m : Meaning) → (prefix_value at o m).left ≡ (prefix_value at o m).walk
left_of_prefix at operator.Not m = refl
left_of_prefix at operator.Minus m = refl
left_of_prefix at operator.Plus m = refl
left_of_prefix at operator.BitNot m = refl
left_of_prefix at operator.Increment m = refl
left_of_prefix at operator.Decrement m = refl

-- brackets are looked through in both
through_brackets : (r : Reading) (at : Place) (inner : Expr) → walk_by r (meaning_of (e.Bracketed at inner)) ≡ walk_by r (meaning_of inner)
through_brackets reading.Value at inner = ap (λ (m : Meaning). m.walk) (one.bracketed at inner)
through_brackets reading.Left at inner = ap (λ (m : Meaning). m.left) (one.bracketed at inner)

-- a form that says nothing of variables
pub says_nothing : {whole form : Expr} {m : Meaning} → whole ≡ form → meaning_of form ≡ m → m.branches ≡ plain_branches m.walk
    → (meaning_of whole).branches ≡ plain_branches (value_of whole)
says_nothing is means plain =
    let there = ap meaning_of is ∙ means in ap (λ (m : Meaning). m.branches) there ∙ plain ∙ sym (ap (λ (m : Meaning). plain_branches m.walk) there)

-- `? :` says nothing of variables
choice : (at : Place) (c : Expr) (middle : Option Expr) (other : Expr) → (meaning_of (e.Conditional at c middle other)).branches ≡ plain_branches (value_of (e.Conditional at c middle other))
choice at c None other = says_nothing refl (one.short at c other) refl
choice at c (Some middle) other = says_nothing refl (one.conditional at c middle other) refl

pub choice_says_nothing : {whole : Expr} (at : Place) (c : Expr) (middle : Option Expr) (other : Expr) → whole ≡ e.Conditional at c middle other
    → (meaning_of whole).branches ≡ plain_branches (value_of whole)
choice_says_nothing at c middle other is =
    ap (λ (x : Expr). (meaning_of x).branches) is ∙ choice at c middle other ∙ sym (ap (λ (x : Expr). plain_branches (value_of x)) is)

-- an operator before its operand, of which this is so
pub sign_says_nothing : {whole : Expr} {at : Place} (operand : Expr) {o : PrefixOperator} (s : PrefixOperator)
    → ((m : Meaning) → (prefix_value at s m).branches ≡ plain_branches (prefix_value at s m).walk) → whole ≡ e.Prefix at o operand → o ≡ s
    → (meaning_of whole).branches ≡ plain_branches (value_of whole)
sign_says_nothing {at = at} operand s plain is same =
    says_nothing (is ∙ ap (λ (p : PrefixOperator). e.Prefix at p operand) same) (one.prefix at s operand) (plain (meaning_of operand))

module _ {Base Held : Type 0} {setting : Setting} {old new : DeclState Base Held} {before behind : State} where
  -- a check of what a form has is one of the whole
  pub whole_of : {A : Type 0} {Names : Symbols → Type 0} {Gives : Symbols → A → Type 0} {walk : Walk A} {result : Result A DeclStop} (whole : Expr) (other : Walk A)
      → Walks walk setting old before result new behind Names Gives → other ≡ walk → ((symbols : Symbols) → ExprIn setting.scope symbols whole → Names symbols)
      → Walks other setting old before result new behind (λ symbols. ExprIn setting.scope symbols whole) Gives
  whole_of {Gives = Gives} {result = result} whole other check same parts =
      subst (λ (w : Walk _). Walks w setting old before result new behind (λ symbols. ExprIn setting.scope symbols whole) Gives) (sym same) (weaker result check parts (λ symbols a n g. g))

  module _ {result : Result HackType DeclStop} {whole : Expr} (r : Reading) where
    pub of_conditional : {at : Place} {c middle other x y z : Expr} → whole ≡ e.Conditional at c (Some middle) other → x ≡ c → y ≡ middle → z ≡ other
        → Walks (conditional_row (meaning_of x) (meaning_of y) (meaning_of z)) setting old before result new behind (λ symbols. ExprIn setting.scope symbols x × ExprIn setting.scope symbols y × ExprIn setting.scope symbols z) TypeIn
        → Walks (walk_by r (meaning_of whole)) setting old before result new behind (λ symbols. ExprIn setting.scope symbols whole) TypeIn
    of_conditional {at = at} {c = c} {middle = middle} {other = other} {x = x} {y = y} {z = z} is first second third check =
        whole_of whole _ check
        (by_form r (conditional_row (meaning_of c) (meaning_of middle) (meaning_of other)) is (one.conditional at c middle other) refl refl
        ∙ (λ i. conditional_row (meaning_of (sym first i)) (meaning_of (sym second i)) (meaning_of (sym third i))))
        (λ symbols all. let parts = names.in_conditional setting.scope symbols at c middle other (subst (ExprIn setting.scope symbols) is all) in
        (subst (ExprIn setting.scope symbols) (sym first) parts.0, subst (ExprIn setting.scope symbols) (sym second) parts.1, subst (ExprIn setting.scope symbols) (sym third) parts.2))

    pub of_short : {at : Place} {c other x z : Expr} → whole ≡ e.Conditional at c None other → x ≡ c → z ≡ other
        → Walks (short_row (meaning_of x) (meaning_of z)) setting old before result new behind (λ symbols. ExprIn setting.scope symbols x × ExprIn setting.scope symbols z) TypeIn
        → Walks (walk_by r (meaning_of whole)) setting old before result new behind (λ symbols. ExprIn setting.scope symbols whole) TypeIn
    of_short {at = at} {c = c} {other = other} {x = x} {z = z} is first third check =
        whole_of whole _ check
        (by_form r (short_row (meaning_of c) (meaning_of other)) is (one.short at c other) refl refl ∙ (λ i. short_row (meaning_of (sym first i)) (meaning_of (sym third i))))
        (λ symbols all. let parts = names.in_short setting.scope symbols at c other (subst (ExprIn setting.scope symbols) is all) in (subst (ExprIn setting.scope symbols) (sym first) parts.0, subst (ExprIn setting.scope symbols) (sym third) parts.1))

    pub of_chain : {at : Place} {first x : Expr} {others ys : List Operand} → whole ≡ e.Chain at first others → x ≡ first → ys ≡ others
        → Walks (walk_by r (chain_value (meaning_of x) (map joined_of ys))) setting old before result new behind (λ symbols. ExprIn setting.scope symbols x × All (OperandIn setting.scope symbols) ys) TypeIn
        → Walks (walk_by r (meaning_of whole)) setting old before result new behind (λ symbols. ExprIn setting.scope symbols whole) TypeIn
    of_chain {at = at} {first = first} {others = others} is front back check =
        whole_of whole _ check
        (ap (λ (x : Expr). walk_by r (meaning_of x)) is ∙ ap (walk_by r) (one.chain at first others)
        ∙ (λ i. walk_by r (chain_value (meaning_of (sym front i)) (map joined_of (sym back i)))))
        (λ symbols all. let here = subst (ExprIn setting.scope symbols) is all in
        (subst (ExprIn setting.scope symbols) (sym front) (names.in_first setting.scope symbols at first others here), subst (All (OperandIn setting.scope symbols)) (sym back) (names.in_others setting.scope symbols at first others here)))

    pub of_prefix : {at : Place} {operator : PrefixOperator} {operand x : Expr} → whole ≡ e.Prefix at operator operand → x ≡ operand
        → Walks (prefix_value at operator (meaning_of x)).walk setting old before result new behind (λ symbols. ExprIn setting.scope symbols x) TypeIn
        → Walks (walk_by r (meaning_of whole)) setting old before result new behind (λ symbols. ExprIn setting.scope symbols whole) TypeIn
    of_prefix {at = at} {operator = operator} {operand = operand} is same check =
        whole_of whole _ check
        (by_form r (prefix_value at operator (meaning_of operand)).walk is (one.prefix at operator operand) refl (left_of_prefix at operator (meaning_of operand))
        ∙ ap (λ (x : Expr). (prefix_value at operator (meaning_of x)).walk) (sym same))
        (λ symbols all. subst (ExprIn setting.scope symbols) (sym same) (names.in_prefix setting.scope symbols at operator operand (subst (ExprIn setting.scope symbols) is all)))

    pub of_cast : {at : Place} {to : CastType} {operand x : Expr} → whole ≡ e.Cast at to operand → x ≡ operand
        → Walks (cast_row to (meaning_of x)) setting old before result new behind (λ symbols. ExprIn setting.scope symbols x) TypeIn
        → Walks (walk_by r (meaning_of whole)) setting old before result new behind (λ symbols. ExprIn setting.scope symbols whole) TypeIn
    of_cast {at = at} {to = to} {operand = operand} is same check =
        whole_of whole _ check
        (by_form r (cast_row to (meaning_of operand)) is (one.cast at to operand) refl refl ∙ ap (λ (x : Expr). cast_row to (meaning_of x)) (sym same))
        (λ symbols all. subst (ExprIn setting.scope symbols) (sym same) (names.in_cast setting.scope symbols at to operand (subst (ExprIn setting.scope symbols) is all)))

    pub of_power : {at : Place} {operands xs : List Expr} → whole ≡ e.Power at operands → xs ≡ operands
        → Walks (power_row (map meaning_of xs)) setting old before result new behind (λ symbols. All (ExprIn setting.scope symbols) xs) TypeIn
        → Walks (walk_by r (meaning_of whole)) setting old before result new behind (λ symbols. ExprIn setting.scope symbols whole) TypeIn
    of_power {at = at} {operands = operands} is same check =
        whole_of whole _ check
        (by_form r (power_row (map meaning_of operands)) is (one.power at operands) refl refl ∙ ap (λ (xs : List Expr). power_row (map meaning_of xs)) (sym same))
        (λ symbols all. subst (All (ExprIn setting.scope symbols)) (sym same) (names.in_operands setting.scope symbols at operands (subst (ExprIn setting.scope symbols) is all)))

    pub of_test : {at : Place} {operand x : Expr} {tests ts : List TypeTest} → whole ≡ e.Test at operand tests → x ≡ operand → ts ≡ tests
        → Walks (tested_row (meaning_of x) ts) setting old before result new behind (λ symbols. ExprIn setting.scope symbols x × All (TestIn setting.scope symbols) ts) TypeIn
        → Walks (walk_by r (meaning_of whole)) setting old before result new behind (λ symbols. ExprIn setting.scope symbols whole) TypeIn
    of_test {at = at} {operand = operand} {tests = tests} is same more check =
        whole_of whole _ check
        (by_form r (tested_row (meaning_of operand) tests) is (one.test at operand tests) refl refl ∙ (λ i. tested_row (meaning_of (sym same i)) (sym more i)))
        (λ symbols all. let here = subst (ExprIn setting.scope symbols) is all in (
          subst (ExprIn setting.scope symbols) (sym same) (names.in_operand setting.scope symbols at operand tests here),
          subst (λ (ts : List TypeTest). All (TestIn setting.scope symbols) ts) (sym more) (names.in_tests setting.scope symbols at operand tests here),
        ))

    pub of_bracketed : {at : Place} {inner x : Expr} → whole ≡ e.Bracketed at inner → x ≡ inner
        → Walks (walk_by r (meaning_of x)) setting old before result new behind (λ symbols. ExprIn setting.scope symbols x) TypeIn
        → Walks (walk_by r (meaning_of whole)) setting old before result new behind (λ symbols. ExprIn setting.scope symbols whole) TypeIn
    of_bracketed {at = at} {inner = inner} is same check =
        whole_of whole _ check
        (ap (λ (x : Expr). walk_by r (meaning_of x)) is ∙ through_brackets r at inner ∙ ap (λ (x : Expr). walk_by r (meaning_of x)) (sym same))
        (λ symbols all. subst (ExprIn setting.scope symbols) (sym same) (names.in_bracketed setting.scope symbols at inner (subst (ExprIn setting.scope symbols) is all)))

    pub of_literal : {at : Place} {l : Literal} → whole ≡ e.Literal at l
        → Walks (pure (literal_type l)) setting old before result new behind (λ symbols. Unit {0}) TypeIn
        → Walks (walk_by r (meaning_of whole)) setting old before result new behind (λ symbols. ExprIn setting.scope symbols whole) TypeIn
    of_literal {at = at} {l = l} is check = whole_of whole _ check (by_form r (pure (literal_type l)) is (one.literal at l) refl refl) (λ symbols all. tt)

    pub of_variable : {at : Place} {name : ℕ} → whole ≡ e.Variable at name
        → Walks (look_up at name) setting old before result new behind (λ symbols. Unit {0}) TypeIn
        → Walks (walk_by r (meaning_of whole)) setting old before result new behind (λ symbols. ExprIn setting.scope symbols whole) TypeIn
    of_variable {at = at} {name = name} is check = whole_of whole _ check (by_form r (look_up at name) is (one.variable at name) refl refl) (λ symbols all. tt)

    pub of_this : {at : Place} → whole ≡ e.This at
        → Walks (this_row at) setting old before result new behind (λ symbols. Unit {0}) TypeIn
        → Walks (walk_by r (meaning_of whole)) setting old before result new behind (λ symbols. ExprIn setting.scope symbols whole) TypeIn
    of_this {at = at} is check = whole_of whole _ check (by_form r (this_row at) is (one.this at) refl refl) (λ symbols all. tt)

    pub of_constant : {at : Place} {name : ℕ} → whole ≡ e.Constant at name
        → Walks (constant_row at name) setting old before result new behind (λ symbols. IsTrue (symbols (record { kind = Const; name = name }))) TypeIn
        → Walks (walk_by r (meaning_of whole)) setting old before result new behind (λ symbols. ExprIn setting.scope symbols whole) TypeIn
    of_constant {at = at} {name = name} is check =
        whole_of whole _ check (by_form r (constant_row at name) is (one.constant at name) refl refl) (λ symbols all. names.in_constant setting.scope symbols at name (subst (ExprIn setting.scope symbols) is all))

    pub of_container : {at : Place} {c : Container} {elements xs : List Expr} → whole ≡ e.Container at c elements → xs ≡ elements
        → Walks (container_row c (map meaning_of xs)) setting old before result new behind (λ symbols. All (ExprIn setting.scope symbols) xs) TypeIn
        → Walks (walk_by r (meaning_of whole)) setting old before result new behind (λ symbols. ExprIn setting.scope symbols whole) TypeIn
    of_container {at = at} {c = c} {elements = elements} is same check =
        whole_of whole _ check
        (by_form r (container_row c (map meaning_of elements)) is (one.container at c elements) refl refl ∙ ap (λ (xs : List Expr). container_row c (map meaning_of xs)) (sym same))
        (λ symbols all. subst (All (ExprIn setting.scope symbols)) (sym same) (names.in_elements setting.scope symbols at c elements (subst (ExprIn setting.scope symbols) is all)))

    pub of_dict : {at : Place} {entries xs : List Entry} → whole ≡ e.Dict at entries → xs ≡ entries
        → Walks (dict_row (map pair_of xs)) setting old before result new behind (λ symbols. All (EntryIn setting.scope symbols) xs) TypeIn
        → Walks (walk_by r (meaning_of whole)) setting old before result new behind (λ symbols. ExprIn setting.scope symbols whole) TypeIn
    of_dict {at = at} {entries = entries} is same check =
        whole_of whole _ check
        (by_form r (dict_row (map pair_of entries)) is (one.dict at entries) refl refl ∙ ap (λ (xs : List Entry). dict_row (map pair_of xs)) (sym same))
        (λ symbols all. subst (All (EntryIn setting.scope symbols)) (sym same) (names.in_entries setting.scope symbols at entries (subst (ExprIn setting.scope symbols) is all)))

    pub of_shape : {at : Place} {fields xs : List FieldValue} → whole ≡ e.Shape at fields → xs ≡ fields
        → Walks (shape_row (map given_of xs)) setting old before result new behind (λ symbols. All (FieldIn setting.scope symbols) xs) TypeIn
        → Walks (walk_by r (meaning_of whole)) setting old before result new behind (λ symbols. ExprIn setting.scope symbols whole) TypeIn
    of_shape {at = at} {fields = fields} is same check =
        whole_of whole _ check
        (by_form r (shape_row (map given_of fields)) is (one.shape at fields) refl refl ∙ ap (λ (xs : List FieldValue). shape_row (map given_of xs)) (sym same))
        (λ symbols all. subst (All (FieldIn setting.scope symbols)) (sym same) (names.in_fields setting.scope symbols at fields (subst (ExprIn setting.scope symbols) is all)))

    pub of_assign : {at : Place} {target x : Expr} {operator : AssignOperator} {value y : Expr} → whole ≡ e.Assign at target operator value → x ≡ target → y ≡ value
        → Walks (assigned_by at operator (meaning_of x) (meaning_of y)) setting old before result new behind (λ symbols. ExprIn setting.scope symbols x × ExprIn setting.scope symbols y) TypeIn
        → Walks (walk_by r (meaning_of whole)) setting old before result new behind (λ symbols. ExprIn setting.scope symbols whole) TypeIn
    of_assign {at = at} {target = target} {operator = operator} {value = value} is one_part other_part check =
        whole_of whole _ check
        (by_form r (assigned_by at operator (meaning_of target) (meaning_of value)) is (one.assign at target operator value) refl refl
        ∙ (λ i. assigned_by at operator (meaning_of (sym one_part i)) (meaning_of (sym other_part i))))
        (λ symbols all. let parts = uses.in_assign setting.scope symbols at target operator value (subst (ExprIn setting.scope symbols) is all) in
        (subst (ExprIn setting.scope symbols) (sym one_part) parts.0, subst (ExprIn setting.scope symbols) (sym other_part) parts.1))

    pub of_postfix : {at : Place} {operand x : Expr} {suffixes xs : List Suffix} → whole ≡ e.Postfix at operand suffixes → x ≡ operand → xs ≡ suffixes
        → Walks (walk_by r (under (meaning_of x) xs)) setting old before result new behind (λ symbols. ExprIn setting.scope symbols x × All (SuffixIn setting.scope symbols) xs) TypeIn
        → Walks (walk_by r (meaning_of whole)) setting old before result new behind (λ symbols. ExprIn setting.scope symbols whole) TypeIn
    of_postfix {at = at} {operand = operand} {suffixes = suffixes} is same more check =
        whole_of whole _ check
        (ap (λ (x : Expr). walk_by r (meaning_of x)) is ∙ ap (walk_by r) (one.postfix at operand suffixes)
        ∙ (λ i. walk_by r (under (meaning_of (sym same i)) (sym more i))))
        (λ symbols all. let parts = uses.in_postfix setting.scope symbols at operand suffixes (subst (ExprIn setting.scope symbols) is all) in
        (subst (ExprIn setting.scope symbols) (sym same) parts.0, subst (All (SuffixIn setting.scope symbols)) (sym more) parts.1))

    pub of_call : {at : Place} {name : ℕ} {arguments xs : List Expr} → whole ≡ e.Call at name arguments → xs ≡ arguments
        → Walks (call_row at name (map meaning_of xs)) setting old before result new behind (λ symbols. IsTrue (symbols (record { kind = Func; name = name })) × All (ExprIn setting.scope symbols) xs) TypeIn
        → Walks (walk_by r (meaning_of whole)) setting old before result new behind (λ symbols. ExprIn setting.scope symbols whole) TypeIn
    of_call {at = at} {name = name} {arguments = arguments} is same check =
        whole_of whole _ check
        (by_form r (call_row at name (map meaning_of arguments)) is (one.call at name arguments) refl refl ∙ ap (λ (xs : List Expr). call_row at name (map meaning_of xs)) (sym same))
        (λ symbols all. let parts = uses.in_call setting.scope symbols at name arguments (subst (ExprIn setting.scope symbols) is all) in
        (parts.0, subst (All (ExprIn setting.scope symbols)) (sym same) parts.1))

    pub of_scoped : {at : Place} {class c : ClassReference} {what m : ScopedMember} → whole ≡ e.Scoped at class what → c ≡ class → m ≡ what
        → Walks (member_of m at c).walk setting old before result new behind (λ symbols. ReferenceIn symbols c × MemberIn setting.scope symbols m) TypeIn
        → Walks (walk_by r (meaning_of whole)) setting old before result new behind (λ symbols. ExprIn setting.scope symbols whole) TypeIn
    of_scoped {at = at} {class = class} {what = what} is of_class of_member check =
        whole_of whole _ check
        (by_form r (member_of what at class).walk is (one.scoped at class what) refl (left_of_scoped what at class)
        ∙ (λ i. (member_of (sym of_member i) at (sym of_class i)).walk))
        (λ symbols all. let parts = uses.in_scoped setting.scope symbols at class what (subst (ExprIn setting.scope symbols) is all) in
        (subst (ReferenceIn symbols) (sym of_class) parts.0, subst (MemberIn setting.scope symbols) (sym of_member) parts.1))

    pub of_new : {at class_at : Place} {class c : ClassReference} {types ts : List WrittenType} {arguments xs : List Expr} → whole ≡ e.New at class_at class types arguments → c ≡ class → ts ≡ types → xs ≡ arguments
        → Walks (new_row at class_at c ts (map meaning_of xs)) setting old before result new behind (λ symbols. ReferenceIn symbols c × All (WrittenIn (names_of setting.scope) symbols) ts × All (ExprIn setting.scope symbols) xs) TypeIn
        → Walks (walk_by r (meaning_of whole)) setting old before result new behind (λ symbols. ExprIn setting.scope symbols whole) TypeIn
    of_new {at = at} {class_at = class_at} {class = class} {types = types} {arguments = arguments} is of_class of_types same check =
        whole_of whole _ check
        (by_form r (new_row at class_at class types (map meaning_of arguments)) is (one.new at class_at class types arguments) refl refl
        ∙ (λ i. new_row at class_at (sym of_class i) (sym of_types i) (map meaning_of (sym same i))))
        (λ symbols all. let parts = uses.in_new setting.scope symbols at class_at class types arguments (subst (ExprIn setting.scope symbols) is all) in (
          subst (ReferenceIn symbols) (sym of_class) parts.0,
          subst (All (WrittenIn (names_of setting.scope) symbols)) (sym of_types) parts.1,
          subst (All (ExprIn setting.scope symbols)) (sym same) parts.2,
        ))

  pub of_plain : {result : Result Branches DeclStop} (whole : Expr) → (meaning_of whole).branches ≡ plain_branches (value_of whole)
      → Walks (plain_branches (value_of whole)) setting old before result new behind (λ symbols. ExprIn setting.scope symbols whole) BranchesIn
      → Walks (meaning_of whole).branches setting old before result new behind (λ symbols. ExprIn setting.scope symbols whole) BranchesIn
  of_plain whole same check = whole_of whole _ check same (λ symbols all. all)

  module _ {result : Result Branches DeclStop} {whole : Expr} where
    pub of_chain_branches : {at : Place} {first x : Expr} {others ys : List Operand} → whole ≡ e.Chain at first others → x ≡ first → ys ≡ others
        → Walks (chain_value (meaning_of x) (map joined_of ys)).branches setting old before result new behind (λ symbols. ExprIn setting.scope symbols x × All (OperandIn setting.scope symbols) ys) BranchesIn
        → Walks (meaning_of whole).branches setting old before result new behind (λ symbols. ExprIn setting.scope symbols whole) BranchesIn
    of_chain_branches {at = at} {first = first} {others = others} is front back check =
        whole_of whole _ check
        (ap (λ (x : Expr). (meaning_of x).branches) is ∙ ap (λ (m : Meaning). m.branches) (one.chain at first others)
        ∙ (λ i. (chain_value (meaning_of (sym front i)) (map joined_of (sym back i))).branches))
        (λ symbols all. let here = subst (ExprIn setting.scope symbols) is all in
        (subst (ExprIn setting.scope symbols) (sym front) (names.in_first setting.scope symbols at first others here), subst (All (OperandIn setting.scope symbols)) (sym back) (names.in_others setting.scope symbols at first others here)))

    pub of_not_branches : {at : Place} {operand x : Expr} → whole ≡ e.Prefix at operator.Not operand → x ≡ operand
        → Walks (not_branches (meaning_of x)) setting old before result new behind (λ symbols. ExprIn setting.scope symbols x) BranchesIn
        → Walks (meaning_of whole).branches setting old before result new behind (λ symbols. ExprIn setting.scope symbols whole) BranchesIn
    of_not_branches {at = at} {operand = operand} is same check =
        whole_of whole _ check
        (ap (λ (x : Expr). (meaning_of x).branches) is ∙ ap (λ (m : Meaning). m.branches) (one.prefix at operator.Not operand)
        ∙ ap (λ (x : Expr). not_branches (meaning_of x)) (sym same))
        (λ symbols all. subst (ExprIn setting.scope symbols) (sym same) (names.in_prefix setting.scope symbols at operator.Not operand (subst (ExprIn setting.scope symbols) is all)))

    pub of_test_branches : {at : Place} {operand x : Expr} {tests ts : List TypeTest} → whole ≡ e.Test at operand tests → x ≡ operand → ts ≡ tests
        → Walks (test_branches (meaning_of x) ts) setting old before result new behind (λ symbols. ExprIn setting.scope symbols x × All (TestIn setting.scope symbols) ts) BranchesIn
        → Walks (meaning_of whole).branches setting old before result new behind (λ symbols. ExprIn setting.scope symbols whole) BranchesIn
    of_test_branches {at = at} {operand = operand} {tests = tests} is same more check =
        whole_of whole _ check
        (ap (λ (x : Expr). (meaning_of x).branches) is ∙ ap (λ (m : Meaning). m.branches) (one.test at operand tests)
        ∙ (λ i. test_branches (meaning_of (sym same i)) (sym more i)))
        (λ symbols all. let here = subst (ExprIn setting.scope symbols) is all in (
          subst (ExprIn setting.scope symbols) (sym same) (names.in_operand setting.scope symbols at operand tests here),
          subst (λ (ts : List TypeTest). All (TestIn setting.scope symbols) ts) (sym more) (names.in_tests setting.scope symbols at operand tests here),
        ))

    pub of_bracketed_branches : {at : Place} {inner x : Expr} → whole ≡ e.Bracketed at inner → x ≡ inner
        → Walks (meaning_of x).branches setting old before result new behind (λ symbols. ExprIn setting.scope symbols x) BranchesIn
        → Walks (meaning_of whole).branches setting old before result new behind (λ symbols. ExprIn setting.scope symbols whole) BranchesIn
    of_bracketed_branches {at = at} {inner = inner} is same check =
        whole_of whole _ check
        (ap (λ (x : Expr). (meaning_of x).branches) is ∙ ap (λ (m : Meaning). m.branches) (one.bracketed at inner)
        ∙ ap (λ (x : Expr). (meaning_of x).branches) (sym same))
        (λ symbols all. subst (ExprIn setting.scope symbols) (sym same) (names.in_bracketed setting.scope symbols at inner (subst (ExprIn setting.scope symbols) is all)))

    pub of_variable_branches : {at : Place} {name : ℕ} → whole ≡ e.Variable at name
        → Walks (variable_branches at name) setting old before result new behind (λ symbols. Unit {0}) BranchesIn
        → Walks (meaning_of whole).branches setting old before result new behind (λ symbols. ExprIn setting.scope symbols whole) BranchesIn
    of_variable_branches {at = at} {name = name} is check =
        whole_of whole _ check (ap (λ (x : Expr). (meaning_of x).branches) is ∙ ap (λ (m : Meaning). m.branches) (one.variable at name)) (λ symbols all. tt)

    pub of_no_postfix_branches : {at : Place} {operand x : Expr} (suffixes : List Suffix) → whole ≡ e.Postfix at operand suffixes → x ≡ operand → length suffixes ≤ 0
        → Walks (meaning_of x).branches setting old before result new behind (λ symbols. ExprIn setting.scope symbols x) BranchesIn
        → Walks (meaning_of whole).branches setting old before result new behind (λ symbols. ExprIn setting.scope symbols whole) BranchesIn
    of_no_postfix_branches {at = at} {operand = operand} suffixes is same none check =
        whole_of whole _ check
        (ap (λ (x : Expr). (meaning_of x).branches) is ∙ ap (λ (m : Meaning). m.branches) (no_postfix at operand suffixes none) ∙ ap (λ (x : Expr). (meaning_of x).branches) (sym same))
        (λ symbols all. subst (ExprIn setting.scope symbols) (sym same) (uses.in_postfix setting.scope symbols at operand suffixes (subst (ExprIn setting.scope symbols) is all)).0)
