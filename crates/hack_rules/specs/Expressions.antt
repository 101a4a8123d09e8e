-- What each expression is: one line a row of docs/language.md, Typing expressions, tied over the tree.
use Rattle.std.specs.Prelude.{[], fold}
use Rattle.hack_tree.specs.declared.expression.ClassReference.{ClassReference}
use Rattle.hack_tree.specs.declared.expression.Expr.{Expr}
use Rattle.hack_tree.specs.declared.expression.Expr.TheOpen.{Expr-F, ScopedMember-F, Suffix-F, Entry-F, FieldValue-F, Operand-F}
use Rattle.hack_tree.specs.declared.expression.Expr.TheFolds.{fold-Expr}
use Rattle.hack_types.specs.declared.hack_type.HackType.{HackType}
use Rattle.hack_types.specs.declared.place.Place.{Place}
use Rattle.hack_rules.specs.Chains.{Joined, chain_value, conditional_value, power_value, prefix_value}
use Rattle.hack_rules.specs.Meanings.{Meaning}
use Rattle.hack_rules.specs.News.{new_value}
use Rattle.hack_rules.specs.Operators.{add, subtract}
use Rattle.hack_rules.specs.Targets.{assignment, increment}
use Rattle.hack_rules.specs.Uses.{call_value, index_value, member_value, property_value, static_property, word_value}
use Rattle.hack_rules.specs.Values.{Given, Pair, bracketed, cast_value, constant_value, container_value, dict_value, literal_value, shape_value, test_value, this_value, variable_value}
use Rattle.hack_rules.specs.Walks.{Walk}

-- what stands behind `::`, by the place and what stands before it
abbrev pub ScopedMeaning : Type 0
ScopedMeaning = Place → ClassReference → Meaning

-- what stands behind an operand makes of it another
abbrev pub SuffixMeaning : Type 0
SuffixMeaning = Meaning → Meaning

-- one line a row
unfoldable pub expression_by : Expr-F Meaning ScopedMeaning SuffixMeaning Pair Given Joined → Meaning
expression_by (Expr-F.Assign at target operator value) = assignment at operator target value
expression_by (Expr-F.Conditional at condition middle other) = conditional_value at condition middle other
expression_by (Expr-F.Chain at first others) = chain_value first others
expression_by (Expr-F.Prefix at operator operand) = prefix_value at operator operand
expression_by (Expr-F.Cast at to operand) = cast_value at to operand
expression_by (Expr-F.Power at operands) = power_value at operands
expression_by (Expr-F.Test at operand tests) = test_value at operand tests
expression_by (Expr-F.Postfix at operand suffixes) = fold (λ base suffix. suffix base) operand suffixes
expression_by (Expr-F.Bracketed at inner) = bracketed at inner
expression_by (Expr-F.Literal at literal) = literal_value at literal
expression_by (Expr-F.Variable at name) = variable_value at name
expression_by (Expr-F.This at) = this_value at
expression_by (Expr-F.Constant at name) = constant_value at name
expression_by (Expr-F.Call at name arguments) = call_value at name arguments
expression_by (Expr-F.Scoped at class member) = member at class
expression_by (Expr-F.New at class_at class types arguments) = new_value at class_at class types arguments
expression_by (Expr-F.Container at container elements) = container_value at container elements
expression_by (Expr-F.Dict at entries) = dict_value at entries
expression_by (Expr-F.Shape at fields) = shape_value at fields

-- what stands behind `::`
unfoldable pub scoped_by : ScopedMember-F Meaning ScopedMeaning SuffixMeaning Pair Given Joined → ScopedMeaning
scoped_by (ScopedMember-F.Property name) = λ at class. property_value at (static_property at class name) []
scoped_by (ScopedMember-F.Word name arguments) = λ at class. word_value at class name arguments

-- what stands behind an operand
unfoldable pub suffix_by : Suffix-F Meaning ScopedMeaning SuffixMeaning Pair Given Joined → SuffixMeaning
suffix_by (Suffix-F.Index index) = λ base. index_value base index
suffix_by (Suffix-F.Member null_safe name arguments) = λ base. member_value base null_safe name arguments
suffix_by Suffix-F.Increment = λ base. increment base.at add base
suffix_by Suffix-F.Decrement = λ base. increment base.at subtract base

-- an entry of a dict
abbrev pub entry_by : Entry-F Meaning ScopedMeaning SuffixMeaning Pair Given Joined → Pair
entry_by entry = record { key = entry.key; value = entry.value }

-- a field of a shape
abbrev pub field_by : FieldValue-F Meaning ScopedMeaning SuffixMeaning Pair Given Joined → Given
field_by field = record { at = field.key_at; key = field.key; value = field.value }

-- an operand of a chain
abbrev pub operand_by : Operand-F Meaning ScopedMeaning SuffixMeaning Pair Given Joined → Joined
operand_by operand = record { operator = operand.operator; operand = operand.operand }

-- what an expression is to the rows that it stands in
abbrev pub meaning_of : Expr → Meaning
meaning_of =
    fold-Expr Meaning ScopedMeaning SuffixMeaning Pair Given Joined expression_by scoped_by suffix_by entry_by field_by operand_by

-- the judgement of an expression: its type, with the variables and the diagnostics behind it
unfoldable pub judged : Expr → Walk HackType
judged e = (meaning_of e).walk
