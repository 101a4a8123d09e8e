-- What the judgement makes of each form of expression, by the meanings of its parts.
use Rattle.std.proofs.Common.{◌≡◌, ◌∙◌, ℕ, Bool, Some, None, List, [], map, sym, ap}
use Rattle.std.specs.List.{fold}
use Rattle.hack_tree.specs.declared.expression.AssignOperator.{AssignOperator}
use Rattle.hack_tree.specs.declared.expression.CastType.{CastType}
use Rattle.hack_tree.specs.declared.expression.ClassReference.{ClassReference}
use Rattle.hack_tree.specs.declared.expression.Entry.{Entry}
use Rattle.hack_tree.specs.declared.expression.Expr.{Expr}
use Rattle.hack_tree.specs.declared.expression.Expr.TheFolds.{fold-roll-Expr, fold-roll-ScopedMember, fold-roll-Suffix, fold_out-Entry, fold_out-FieldValue, fold_out-Operand}
use Rattle.hack_tree.specs.declared.expression.Expr.TheOpen.{Expr-F, ScopedMember-F, Suffix-F}
use Rattle.hack_tree.specs.declared.expression.Expr.TheVariants as e
use Rattle.hack_tree.specs.declared.expression.FieldValue.{FieldValue}
use Rattle.hack_tree.specs.declared.expression.Literal.{Literal}
use Rattle.hack_tree.specs.declared.expression.Operand.{Operand}
use Rattle.hack_tree.specs.declared.expression.PrefixOperator.{PrefixOperator}
use Rattle.hack_tree.specs.declared.expression.ScopedMember.{ScopedMember}
use Rattle.hack_tree.specs.declared.expression.ScopedMember.TheVariants as member
use Rattle.hack_tree.specs.declared.expression.Suffix.{Suffix}
use Rattle.hack_tree.specs.declared.expression.Suffix.TheVariants as suffix
use Rattle.hack_tree.specs.declared.expression.TypeTest.{TypeTest}
use Rattle.hack_tree.specs.declared.written_type.Container.{Container}
use Rattle.hack_tree.specs.declared.written_type.WrittenType.{WrittenType}
use Rattle.hack_types.specs.declared.place.Place.{Place}
use Rattle.hack_rules.specs.Chains.{Joined, chain_value, conditional_value, power_value, prefix_value}
use Rattle.hack_rules.specs.Expressions.{ScopedMeaning, SuffixMeaning, entry_by, expression_by, field_by, meaning_of, operand_by, scoped_by, suffix_by}
use Rattle.hack_rules.specs.Meanings.{Meaning}
use Rattle.hack_rules.specs.News.{new_value}
use Rattle.hack_rules.specs.Operators.{add, subtract}
use Rattle.hack_rules.specs.Targets.{assignment, increment as increment_value}
use Rattle.hack_rules.specs.Uses.{call_value, index_value, member_value, property_value, static_property, word_value}
use Rattle.hack_rules.specs.Values.{Given, Pair, bracketed as in_brackets, cast_value, constant_value, container_value, dict_value, literal_value, shape_value, test_value, this_value, variable_value}
use Rattle.hack_parts.specs.Forms.{given_of, joined_of, member_of, pair_of, suffix_of}

pub assign : (at : Place) (target : Expr) (operator : AssignOperator) (value : Expr) → meaning_of (e.Assign at target operator value) ≡ assignment at operator (meaning_of target) (meaning_of value)
unfolding expression_by
assign at target operator value = ap meaning_of (sym (e.rolls-Assign at target operator value)) ∙ fold-roll-Expr Meaning ScopedMeaning SuffixMeaning Pair Given Joined expression_by scoped_by suffix_by entry_by field_by operand_by (Expr-F.Assign at target operator value)

pub short : (at : Place) (condition : Expr) (other : Expr) → meaning_of (e.Conditional at condition None other) ≡ conditional_value at (meaning_of condition) None (meaning_of other)
unfolding expression_by
short at condition other = ap meaning_of (sym (e.rolls-Conditional at condition None other)) ∙ fold-roll-Expr Meaning ScopedMeaning SuffixMeaning Pair Given Joined expression_by scoped_by suffix_by entry_by field_by operand_by (Expr-F.Conditional at condition None other)

pub conditional : (at : Place) (condition middle other : Expr)
    → meaning_of (e.Conditional at condition (Some middle) other) ≡ conditional_value at (meaning_of condition) (Some (meaning_of middle)) (meaning_of other)
unfolding expression_by
conditional at condition middle other =
    ap meaning_of (sym (e.rolls-Conditional at condition (Some middle) other)) ∙ fold-roll-Expr Meaning ScopedMeaning SuffixMeaning Pair Given Joined expression_by scoped_by suffix_by entry_by field_by operand_by (Expr-F.Conditional at condition (Some middle) other)

pub chain : (at : Place) (first : Expr) (others : List Operand) → meaning_of (e.Chain at first others) ≡ chain_value (meaning_of first) (map joined_of others)
unfolding expression_by
chain at first others = ap meaning_of (sym (e.rolls-Chain at first others)) ∙ fold-roll-Expr Meaning ScopedMeaning SuffixMeaning Pair Given Joined expression_by scoped_by suffix_by entry_by field_by operand_by (Expr-F.Chain at first others)

pub prefix : (at : Place) (operator : PrefixOperator) (operand : Expr) → meaning_of (e.Prefix at operator operand) ≡ prefix_value at operator (meaning_of operand)
unfolding expression_by
prefix at operator operand = ap meaning_of (sym (e.rolls-Prefix at operator operand)) ∙ fold-roll-Expr Meaning ScopedMeaning SuffixMeaning Pair Given Joined expression_by scoped_by suffix_by entry_by field_by operand_by (Expr-F.Prefix at operator operand)

pub cast : (at : Place) (to : CastType) (operand : Expr) → meaning_of (e.Cast at to operand) ≡ cast_value at to (meaning_of operand)
unfolding expression_by
cast at to operand = ap meaning_of (sym (e.rolls-Cast at to operand)) ∙ fold-roll-Expr Meaning ScopedMeaning SuffixMeaning Pair Given Joined expression_by scoped_by suffix_by entry_by field_by operand_by (Expr-F.Cast at to operand)

pub power : (at : Place) (operands : List Expr) → meaning_of (e.Power at operands) ≡ power_value at (map meaning_of operands)
unfolding expression_by
power at operands = ap meaning_of (sym (e.rolls-Power at operands)) ∙ fold-roll-Expr Meaning ScopedMeaning SuffixMeaning Pair Given Joined expression_by scoped_by suffix_by entry_by field_by operand_by (Expr-F.Power at operands)

pub test : (at : Place) (operand : Expr) (tests : List TypeTest) → meaning_of (e.Test at operand tests) ≡ test_value at (meaning_of operand) tests
unfolding expression_by
test at operand tests = ap meaning_of (sym (e.rolls-Test at operand tests)) ∙ fold-roll-Expr Meaning ScopedMeaning SuffixMeaning Pair Given Joined expression_by scoped_by suffix_by entry_by field_by operand_by (Expr-F.Test at operand tests)

pub postfix : (at : Place) (operand : Expr) (suffixes : List Suffix) → meaning_of (e.Postfix at operand suffixes) ≡ fold (λ base suffix. suffix base) (meaning_of operand) (map suffix_of suffixes)
unfolding expression_by
postfix at operand suffixes = ap meaning_of (sym (e.rolls-Postfix at operand suffixes)) ∙ fold-roll-Expr Meaning ScopedMeaning SuffixMeaning Pair Given Joined expression_by scoped_by suffix_by entry_by field_by operand_by (Expr-F.Postfix at operand suffixes)

pub bracketed : (at : Place) (inner : Expr) → meaning_of (e.Bracketed at inner) ≡ in_brackets at (meaning_of inner)
unfolding expression_by
bracketed at inner = ap meaning_of (sym (e.rolls-Bracketed at inner)) ∙ fold-roll-Expr Meaning ScopedMeaning SuffixMeaning Pair Given Joined expression_by scoped_by suffix_by entry_by field_by operand_by (Expr-F.Bracketed at inner)

pub literal : (at : Place) (l : Literal) → meaning_of (e.Literal at l) ≡ literal_value at l
unfolding expression_by
literal at l = ap meaning_of (sym (e.rolls-Literal at l)) ∙ fold-roll-Expr Meaning ScopedMeaning SuffixMeaning Pair Given Joined expression_by scoped_by suffix_by entry_by field_by operand_by (Expr-F.Literal at l)

pub variable : (at : Place) (name : ℕ) → meaning_of (e.Variable at name) ≡ variable_value at name
unfolding expression_by
variable at name = ap meaning_of (sym (e.rolls-Variable at name)) ∙ fold-roll-Expr Meaning ScopedMeaning SuffixMeaning Pair Given Joined expression_by scoped_by suffix_by entry_by field_by operand_by (Expr-F.Variable at name)

pub this : (at : Place) → meaning_of (e.This at) ≡ this_value at
unfolding expression_by
this at = ap meaning_of (sym (e.rolls-This at)) ∙ fold-roll-Expr Meaning ScopedMeaning SuffixMeaning Pair Given Joined expression_by scoped_by suffix_by entry_by field_by operand_by (Expr-F.This at)

pub constant : (at : Place) (name : ℕ) → meaning_of (e.Constant at name) ≡ constant_value at name
unfolding expression_by
constant at name = ap meaning_of (sym (e.rolls-Constant at name)) ∙ fold-roll-Expr Meaning ScopedMeaning SuffixMeaning Pair Given Joined expression_by scoped_by suffix_by entry_by field_by operand_by (Expr-F.Constant at name)

pub call : (at : Place) (name : ℕ) (arguments : List Expr) → meaning_of (e.Call at name arguments) ≡ call_value at name (map meaning_of arguments)
unfolding expression_by
call at name arguments = ap meaning_of (sym (e.rolls-Call at name arguments)) ∙ fold-roll-Expr Meaning ScopedMeaning SuffixMeaning Pair Given Joined expression_by scoped_by suffix_by entry_by field_by operand_by (Expr-F.Call at name arguments)

pub scoped : (at : Place) (class : ClassReference) (member : ScopedMember) → meaning_of (e.Scoped at class member) ≡ member_of member at class
unfolding expression_by
scoped at class member = ap meaning_of (sym (e.rolls-Scoped at class member)) ∙ fold-roll-Expr Meaning ScopedMeaning SuffixMeaning Pair Given Joined expression_by scoped_by suffix_by entry_by field_by operand_by (Expr-F.Scoped at class member)

pub new : (at : Place) (class_at : Place) (class : ClassReference) (types : List WrittenType) (arguments : List Expr) → meaning_of (e.New at class_at class types arguments) ≡ new_value at class_at class types (map meaning_of arguments)
unfolding expression_by
new at class_at class types arguments = ap meaning_of (sym (e.rolls-New at class_at class types arguments)) ∙ fold-roll-Expr Meaning ScopedMeaning SuffixMeaning Pair Given Joined expression_by scoped_by suffix_by entry_by field_by operand_by (Expr-F.New at class_at class types arguments)

pub container : (at : Place) (c : Container) (elements : List Expr) → meaning_of (e.Container at c elements) ≡ container_value at c (map meaning_of elements)
unfolding expression_by
container at c elements = ap meaning_of (sym (e.rolls-Container at c elements)) ∙ fold-roll-Expr Meaning ScopedMeaning SuffixMeaning Pair Given Joined expression_by scoped_by suffix_by entry_by field_by operand_by (Expr-F.Container at c elements)

pub dict : (at : Place) (entries : List Entry) → meaning_of (e.Dict at entries) ≡ dict_value at (map pair_of entries)
unfolding expression_by
dict at entries = ap meaning_of (sym (e.rolls-Dict at entries)) ∙ fold-roll-Expr Meaning ScopedMeaning SuffixMeaning Pair Given Joined expression_by scoped_by suffix_by entry_by field_by operand_by (Expr-F.Dict at entries)

pub shape : (at : Place) (fields : List FieldValue) → meaning_of (e.Shape at fields) ≡ shape_value at (map given_of fields)
unfolding expression_by
shape at fields = ap meaning_of (sym (e.rolls-Shape at fields)) ∙ fold-roll-Expr Meaning ScopedMeaning SuffixMeaning Pair Given Joined expression_by scoped_by suffix_by entry_by field_by operand_by (Expr-F.Shape at fields)

-- the parts of a form
pub pair : (entry : Entry) → pair_of entry ≡ record { key = meaning_of entry.key; value = meaning_of entry.value }
pair entry = fold_out-Entry Meaning ScopedMeaning SuffixMeaning Pair Given Joined expression_by scoped_by suffix_by entry_by field_by operand_by entry

pub given : (field : FieldValue) → given_of field ≡ record { at = field.key_at; key = field.key; value = meaning_of field.value }
given field = fold_out-FieldValue Meaning ScopedMeaning SuffixMeaning Pair Given Joined expression_by scoped_by suffix_by entry_by field_by operand_by field

pub joined : (operand : Operand) → joined_of operand ≡ record { operator = operand.operator; operand = meaning_of operand.operand }
joined operand = fold_out-Operand Meaning ScopedMeaning SuffixMeaning Pair Given Joined expression_by scoped_by suffix_by entry_by field_by operand_by operand

-- what stands behind an operand
pub index_none : suffix_of (suffix.Index None) ≡ (λ base. index_value base None)
unfolding suffix_by
index_none = ap suffix_of (sym (suffix.rolls-Index None)) ∙ fold-roll-Suffix Meaning ScopedMeaning SuffixMeaning Pair Given Joined expression_by scoped_by suffix_by entry_by field_by operand_by (Suffix-F.Index None)

pub index_some : (index : Expr) → suffix_of (suffix.Index (Some index)) ≡ (λ base. index_value base (Some (meaning_of index)))
unfolding suffix_by
index_some index = ap suffix_of (sym (suffix.rolls-Index (Some index))) ∙ fold-roll-Suffix Meaning ScopedMeaning SuffixMeaning Pair Given Joined expression_by scoped_by suffix_by entry_by field_by operand_by (Suffix-F.Index (Some index))

pub member_none : (null_safe : Bool) (name : ℕ) → suffix_of (suffix.Member null_safe name None) ≡ (λ base. member_value base null_safe name None)
unfolding suffix_by
member_none null_safe name = ap suffix_of (sym (suffix.rolls-Member null_safe name None)) ∙ fold-roll-Suffix Meaning ScopedMeaning SuffixMeaning Pair Given Joined expression_by scoped_by suffix_by entry_by field_by operand_by (Suffix-F.Member null_safe name None)

pub member_some : (null_safe : Bool) (name : ℕ) (arguments : List Expr) → suffix_of (suffix.Member null_safe name (Some arguments)) ≡ (λ base. member_value base null_safe name (Some (map meaning_of arguments)))
unfolding suffix_by
member_some null_safe name arguments = ap suffix_of (sym (suffix.rolls-Member null_safe name (Some arguments))) ∙ fold-roll-Suffix Meaning ScopedMeaning SuffixMeaning Pair Given Joined expression_by scoped_by suffix_by entry_by field_by operand_by (Suffix-F.Member null_safe name (Some arguments))

pub increment : suffix_of suffix.Increment ≡ (λ base. increment_value base.at add base)
unfolding suffix_by
increment = ap suffix_of (sym suffix.rolls-Increment) ∙ fold-roll-Suffix Meaning ScopedMeaning SuffixMeaning Pair Given Joined expression_by scoped_by suffix_by entry_by field_by operand_by (Suffix-F.Increment)

pub decrement : suffix_of suffix.Decrement ≡ (λ base. increment_value base.at subtract base)
unfolding suffix_by
decrement = ap suffix_of (sym suffix.rolls-Decrement) ∙ fold-roll-Suffix Meaning ScopedMeaning SuffixMeaning Pair Given Joined expression_by scoped_by suffix_by entry_by field_by operand_by (Suffix-F.Decrement)

-- what stands behind `::`
pub property : (name : ℕ) → member_of (member.Property name) ≡ (λ at class. property_value at (static_property at class name) [])
unfolding scoped_by
property name = ap member_of (sym (member.rolls-Property name)) ∙ fold-roll-ScopedMember Meaning ScopedMeaning SuffixMeaning Pair Given Joined expression_by scoped_by suffix_by entry_by field_by operand_by (ScopedMember-F.Property name)

pub word_none : (name : ℕ) → member_of (member.Word name None) ≡ (λ at class. word_value at class name None)
unfolding scoped_by
word_none name = ap member_of (sym (member.rolls-Word name None)) ∙ fold-roll-ScopedMember Meaning ScopedMeaning SuffixMeaning Pair Given Joined expression_by scoped_by suffix_by entry_by field_by operand_by (ScopedMember-F.Word name None)

pub word_some : (name : ℕ) (arguments : List Expr) → member_of (member.Word name (Some arguments)) ≡ (λ at class. word_value at class name (Some (map meaning_of arguments)))
unfolding scoped_by
word_some name arguments = ap member_of (sym (member.rolls-Word name (Some arguments))) ∙ fold-roll-ScopedMember Meaning ScopedMeaning SuffixMeaning Pair Given Joined expression_by scoped_by suffix_by entry_by field_by operand_by (ScopedMember-F.Word name (Some arguments))
