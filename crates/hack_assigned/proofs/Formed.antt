-- What is assigned in each form of expression.
use Rattle.std.proofs.Common.{◌≡◌, ◌∙◌, ◌++◌, ℕ, true, false, Option, Some, None, Result, OnOk, List, [], rules, sym, ap}
use Rattle.std.specs.List.{flat_map}
use Rattle.std.proofs.lemmas.List.Folds.{flat_map-map}
use Rattle.std.proofs.lemmas.Result.{on_ok_weaker}
use Rattle.hack_tree.specs.declared.expression.AssignOperator.{AssignOperator}
use Rattle.hack_tree.specs.declared.expression.CastType.{CastType}
use Rattle.hack_tree.specs.declared.expression.ClassReference.{ClassReference}
use Rattle.hack_tree.specs.declared.expression.Entry.{Entry}
use Rattle.hack_tree.specs.declared.expression.Expr.{Expr, the_lemmas}
use Rattle.hack_tree.specs.declared.expression.Expr.TheFolds.{fold-roll-ScopedMember}
use Rattle.hack_tree.specs.declared.expression.Expr.TheOpen.{ScopedMember-F}
use Rattle.hack_tree.specs.declared.expression.Expr.TheVariants as e
use Rattle.hack_tree.specs.declared.expression.FieldValue.{FieldValue}
use Rattle.hack_tree.specs.declared.expression.Literal.{Literal}
use Rattle.hack_tree.specs.declared.expression.Operand.{Operand}
use Rattle.hack_tree.specs.declared.expression.PrefixOperator.{PrefixOperator}
use Rattle.hack_tree.specs.declared.expression.PrefixOperator.TheVariants as prefix
use Rattle.hack_tree.specs.declared.expression.ScopedMember.{ScopedMember, out-ScopedMember, roll-ScopedMember}
use Rattle.hack_tree.specs.declared.expression.Suffix.{Suffix}
use Rattle.hack_tree.specs.declared.expression.TypeTest.{TypeTest}
use Rattle.hack_tree.specs.declared.written_type.Container.{Container}
use Rattle.hack_tree.specs.declared.written_type.WrittenType.{WrittenType}
use Rattle.hack_types.specs.declared.place.Place.{Place}
use Rattle.hack_rules.specs.Chains.{Joined}
use Rattle.hack_rules.specs.Expressions.{ScopedMeaning, SuffixMeaning, entry_by, expression_by, field_by, meaning_of, operand_by, scoped_by, suffix_by}
use Rattle.hack_rules.specs.Meanings.{Meaning}
use Rattle.hack_rules.specs.Values.{Given, Pair}
use Rattle.hack_parts.specs.ExprMeanings as one
use Rattle.hack_parts.specs.Forms.{given_of, member_of, pair_of}
use Rattle.hack_assigned.specs.inside.Parts.{in_each, in_entry, in_expression, in_field, in_member, in_member_by, in_operand, is_step}
use Rattle.hack_assigned.specs.inside.Suffixes.{added_behind}
use Rattle.hack_assigned.proofs.Adding.{same_each}
use Rattle.hack_assigned.proofs.Chained.{chained}
use Rattle.hack_assigned.proofs.Suffixed.{all_added, each_is}

abbrev assigned_of : Meaning → List ℕ
assigned_of m = m.assigned

abbrev roots_of : Expr → List ℕ
roots_of e = (meaning_of e).roots

pub of_assign : {whole t v r target value : Expr} {at : Place} {operator : AssignOperator} {roots : List ℕ} → whole ≡ e.Assign at target operator value
    → t ≡ target → v ≡ value → r ≡ target → roots ≡ roots_of r → in_expression t ++ in_expression v ++ roots ≡ in_expression whole
of_assign {t = t} {v = v} {target = target} {value = value} {at = at} {operator = operator} {roots = roots} is first second third same =
    ap (λ (x : Expr). in_expression x ++ in_expression v ++ roots) first ∙ ap (λ (x : Expr). in_expression target ++ in_expression x ++ roots) second
    ∙ ap (λ l. in_expression target ++ in_expression value ++ l) (same ∙ ap roots_of third)
    ∙ sym (ap in_expression is ∙ ap assigned_of (one.assign at target operator value))

pub of_conditional : {whole c m o condition middle other : Expr} {at : Place} {given : Option Expr} → whole ≡ e.Conditional at condition given other → given ≡ Some middle
    → c ≡ condition → m ≡ middle → o ≡ other → in_expression c ++ in_expression m ++ in_expression o ≡ in_expression whole
of_conditional {c = c} {m = m} {o = o} {condition = condition} {middle = middle} {other = other} {at = at} is there first second third =
    ap (λ (x : Expr). in_expression x ++ in_expression m ++ in_expression o) first ∙ ap (λ (x : Expr). in_expression condition ++ in_expression x ++ in_expression o) second
    ∙ ap (λ (x : Expr). in_expression condition ++ in_expression middle ++ in_expression x) third
    ∙ sym (ap in_expression (is ∙ ap (λ (g : Option Expr). e.Conditional at condition g other) there) ∙ ap assigned_of (one.conditional at condition middle other))

pub of_short : {whole c o condition other : Expr} {at : Place} {given : Option Expr} → whole ≡ e.Conditional at condition given other → given ≡ None
    → c ≡ condition → o ≡ other → in_expression c ++ in_expression o ≡ in_expression whole
of_short {c = c} {o = o} {condition = condition} {other = other} {at = at} is none first second =
    ap (λ (x : Expr). in_expression x ++ in_expression o) first ∙ ap (λ (x : Expr). in_expression condition ++ in_expression x) second
    ∙ sym (ap in_expression (is ∙ ap (λ (g : Option Expr). e.Conditional at condition g other) none) ∙ ap assigned_of (one.short at condition other))

pub of_chain : {whole f first : Expr} {at : Place} {given others : List Operand} → whole ≡ e.Chain at first others → f ≡ first → given ≡ others
    → in_expression f ++ flat_map in_operand given ≡ in_expression whole
of_chain {f = f} {first = first} {at = at} {given = given} {others = others} is same slice =
    ap (λ (x : Expr). in_expression x ++ flat_map in_operand given) same ∙ ap (λ l. in_expression first ++ flat_map in_operand l) slice
    ∙ chained first others ∙ sym (ap in_expression is ∙ ap assigned_of (one.chain at first others))

prefixed : (at : Place) (operator : PrefixOperator) (operand : Expr) → is_step operator ≡ false → in_expression operand ≡ in_expression (e.Prefix at operator operand)
prefixed at prefix.Not operand isnt = sym (ap assigned_of (one.prefix at prefix.Not operand))
prefixed at prefix.Minus operand isnt = sym (ap assigned_of (one.prefix at prefix.Minus operand))
prefixed at prefix.Plus operand isnt = sym (ap assigned_of (one.prefix at prefix.Plus operand))
prefixed at prefix.BitNot operand isnt = sym (ap assigned_of (one.prefix at prefix.BitNot operand))
prefixed at prefix.Increment operand isnt = absurd cc
prefixed at prefix.Decrement operand isnt = absurd cc

stepped : (at : Place) (operator : PrefixOperator) (operand : Expr) → is_step operator ≡ true → in_expression operand ++ roots_of operand ≡ in_expression (e.Prefix at operator operand)
stepped at prefix.Not operand steps = absurd cc
stepped at prefix.Minus operand steps = absurd cc
stepped at prefix.Plus operand steps = absurd cc
stepped at prefix.BitNot operand steps = absurd cc
stepped at prefix.Increment operand steps = sym (ap assigned_of (one.prefix at prefix.Increment operand))
stepped at prefix.Decrement operand steps = sym (ap assigned_of (one.prefix at prefix.Decrement operand))

pub of_prefix : {whole o operand : Expr} {at : Place} {operator : PrefixOperator} → whole ≡ e.Prefix at operator operand → o ≡ operand → is_step operator ≡ false
    → in_expression o ≡ in_expression whole
of_prefix {operand = operand} {at = at} {operator = operator} is same isnt = ap in_expression same ∙ prefixed at operator operand isnt ∙ sym (ap in_expression is)

pub of_step : {whole o r operand : Expr} {at : Place} {operator : PrefixOperator} {roots : List ℕ} → whole ≡ e.Prefix at operator operand → o ≡ operand → r ≡ operand
    → is_step operator ≡ true → roots ≡ roots_of r → in_expression o ++ roots ≡ in_expression whole
of_step {o = o} {operand = operand} {at = at} {operator = operator} {roots = roots} is same again steps root =
    ap (λ (x : Expr). in_expression x ++ roots) same ∙ ap (λ l. in_expression operand ++ l) (root ∙ ap roots_of again) ∙ stepped at operator operand steps ∙ sym (ap in_expression is)

pub of_cast : {whole o operand : Expr} {at : Place} {to : CastType} → whole ≡ e.Cast at to operand → o ≡ operand → in_expression o ≡ in_expression whole
of_cast {operand = operand} {at = at} {to = to} is same = ap in_expression same ∙ sym (ap in_expression is ∙ ap assigned_of (one.cast at to operand))

pub of_test : {whole o operand : Expr} {at : Place} {tests : List TypeTest} → whole ≡ e.Test at operand tests → o ≡ operand → in_expression o ≡ in_expression whole
of_test {operand = operand} {at = at} {tests = tests} is same = ap in_expression same ∙ sym (ap in_expression is ∙ ap assigned_of (one.test at operand tests))

pub of_bracketed : {whole o operand : Expr} {at : Place} → whole ≡ e.Bracketed at operand → o ≡ operand → in_expression o ≡ in_expression whole
of_bracketed {operand = operand} {at = at} is same = ap in_expression same ∙ sym (ap in_expression is ∙ ap assigned_of (one.bracketed at operand))

pub of_power : {whole : Expr} {at : Place} {given parts : List Expr} → whole ≡ e.Power at parts → given ≡ parts → in_each given ≡ in_expression whole
of_power {at = at} {parts = parts} is slice = ap in_each slice ∙ each_is parts ∙ sym (ap in_expression is ∙ ap assigned_of (one.power at parts))

pub of_call : {whole : Expr} {at : Place} {name : ℕ} {given parts : List Expr} → whole ≡ e.Call at name parts → given ≡ parts → in_each given ≡ in_expression whole
of_call {at = at} {name = name} {parts = parts} is slice = ap in_each slice ∙ each_is parts ∙ sym (ap in_expression is ∙ ap assigned_of (one.call at name parts))

pub of_new : {whole : Expr} {at class_at : Place} {class : ClassReference} {types : List WrittenType} {given parts : List Expr} → whole ≡ e.New at class_at class types parts
    → given ≡ parts → in_each given ≡ in_expression whole
of_new {at = at} {class_at = class_at} {class = class} {types = types} {parts = parts} is slice =
    ap in_each slice ∙ each_is parts ∙ sym (ap in_expression is ∙ ap assigned_of (one.new at class_at class types parts))

pub of_container : {whole : Expr} {at : Place} {container : Container} {given parts : List Expr} → whole ≡ e.Container at container parts → given ≡ parts
    → in_each given ≡ in_expression whole
of_container {at = at} {container = container} {parts = parts} is slice =
    ap in_each slice ∙ each_is parts ∙ sym (ap in_expression is ∙ ap assigned_of (one.container at container parts))

pub of_dict : {whole : Expr} {at : Place} {given entries : List Entry} → whole ≡ e.Dict at entries → given ≡ entries → flat_map in_entry given ≡ in_expression whole
of_dict {at = at} {entries = entries} is slice =
    ap (flat_map in_entry) slice
    ∙ same_each in_entry (λ entry. (pair_of entry).key.assigned ++ (pair_of entry).value.assigned) (λ entry. sym (ap (λ (p : Pair). p.key.assigned ++ p.value.assigned) (one.pair entry))) entries
    ∙ sym (flat_map-map (λ (p : Pair). p.key.assigned ++ p.value.assigned) pair_of entries)
    ∙ sym (ap in_expression is ∙ ap assigned_of (one.dict at entries))

pub of_shape : {whole : Expr} {at : Place} {given fields : List FieldValue} → whole ≡ e.Shape at fields → given ≡ fields → flat_map in_field given ≡ in_expression whole
of_shape {at = at} {fields = fields} is slice =
    ap (flat_map in_field) slice
    ∙ same_each in_field (λ field. (given_of field).value.assigned) (λ field. sym (ap (λ (g : Given). g.value.assigned) (one.given field))) fields
    ∙ sym (flat_map-map (λ (g : Given). g.value.assigned) given_of fields)
    ∙ sym (ap in_expression is ∙ ap assigned_of (one.shape at fields))

-- ---- what stands behind an operand

pub of_postfix : {A E : Type 0} (result : Result A E) (names later : List ℕ) {whole o r operand : Expr} {at : Place} {given suffixes : List Suffix} {roots middle : List ℕ} → whole ≡ e.Postfix at operand suffixes → o ≡ operand
    → r ≡ operand → given ≡ suffixes → roots ≡ roots_of r → middle ≡ names ++ in_expression o
    → OnOk result (later ≡ added_behind middle roots given) → OnOk result (later ≡ names ++ in_expression whole)
of_postfix result names later {operand = operand} {at = at} {given = given} {suffixes = suffixes} {roots = roots} is same again slice root first second = on_ok_weaker result (λ put.
    put ∙ ap (λ l. added_behind l roots given) (first ∙ ap (λ (x : Expr). names ++ in_expression x) same)
    ∙ ap (λ l. added_behind (names ++ in_expression operand) l given) (root ∙ ap roots_of again)
    ∙ ap (λ l. added_behind (names ++ in_expression operand) (roots_of operand) l) slice
    ∙ all_added suffixes names (meaning_of operand)
    ∙ sym (ap (λ (x : Expr). names ++ in_expression x) is ∙ ap (λ (m : Meaning). names ++ m.assigned) (one.postfix at operand suffixes))) second

-- ---- what stands behind `::`

member_layer : (layer : ScopedMember-F Expr ScopedMember Suffix Entry FieldValue Operand) (at : Place) (class : ClassReference)
    → in_member_by layer ≡ (member_of (roll-ScopedMember layer) at class).assigned
unfolding scoped_by
member_layer (ScopedMember-F.Property name) at class =
    sym (ap (λ (f : ScopedMeaning). (f at class).assigned) (fold-roll-ScopedMember Meaning ScopedMeaning SuffixMeaning Pair Given Joined expression_by scoped_by suffix_by entry_by field_by operand_by (ScopedMember-F.Property name)))
member_layer (ScopedMember-F.Word name None) at class =
    sym (ap (λ (f : ScopedMeaning). (f at class).assigned) (fold-roll-ScopedMember Meaning ScopedMeaning SuffixMeaning Pair Given Joined expression_by scoped_by suffix_by entry_by field_by operand_by (ScopedMember-F.Word name None)))
member_layer (ScopedMember-F.Word name (Some arguments)) at class =
    each_is arguments
    ∙ sym (ap (λ (f : ScopedMeaning). (f at class).assigned) (fold-roll-ScopedMember Meaning ScopedMeaning SuffixMeaning Pair Given Joined expression_by scoped_by suffix_by entry_by field_by operand_by (ScopedMember-F.Word name (Some arguments))))

rolled : (m : ScopedMember) → m ≡ roll-ScopedMember (out-ScopedMember m)
rolled m = search (rules, the_lemmas)

pub of_scoped : {whole : Expr} {at : Place} {class : ClassReference} {member : ScopedMember} → whole ≡ e.Scoped at class member → in_member member ≡ in_expression whole
of_scoped {at = at} {class = class} {member = member} is =
    member_layer (out-ScopedMember member) at class ∙ ap (λ (m : ScopedMember). (member_of m at class).assigned) (sym (rolled member))
    ∙ sym (ap in_expression is ∙ ap assigned_of (one.scoped at class member))

-- ---- nothing

pub of_literal : {whole : Expr} → (at : Place) (l : Literal) → whole ≡ e.Literal at l → [] ≡ in_expression whole
of_literal at l is = sym (ap in_expression is ∙ ap assigned_of (one.literal at l))

pub of_variable : {whole : Expr} → (at : Place) (name : ℕ) → whole ≡ e.Variable at name → [] ≡ in_expression whole
of_variable at name is = sym (ap in_expression is ∙ ap assigned_of (one.variable at name))

pub of_this : {whole : Expr} → (at : Place) → whole ≡ e.This at → [] ≡ in_expression whole
of_this at is = sym (ap in_expression is ∙ ap assigned_of (one.this at))

pub of_constant : {whole : Expr} → (at : Place) (name : ℕ) → whole ≡ e.Constant at name → [] ≡ in_expression whole
of_constant at name is = sym (ap in_expression is ∙ ap assigned_of (one.constant at name))
