-- A target whose parts were typed is as a value what the expression is.
use Rattle.std.proofs.Common.{◌≡◌, ℕ, Bool, true, false, Option, Some, None, List, [], ◌∷◌, map, refl, sym, ap, subst}
use Rattle.std.specs.List.{fold}
use Rattle.hack_tree.specs.declared.expression.AssignOperator.{AssignOperator}
use Rattle.hack_tree.specs.declared.expression.AssignOperator.TheVariants as assign
use Rattle.hack_tree.specs.declared.expression.BinaryOperator.{BinaryOperator}
use Rattle.hack_tree.specs.declared.expression.BinaryOperator.TheVariants as binary
use Rattle.hack_tree.specs.declared.expression.ClassReference.{ClassReference}
use Rattle.hack_tree.specs.declared.expression.Entry.{Entry, roll-Entry}
use Rattle.hack_tree.specs.declared.expression.Expr.{Expr, roll-Expr}
use Rattle.hack_tree.specs.declared.expression.Expr.TheFolds.{fold-roll-Expr, fold_out-ScopedMember, fold_out-Suffix, ind-Expr, map-Expr, map-ScopedMember, map-Suffix, map-Entry, map-FieldValue, map-Operand}
use Rattle.hack_tree.specs.declared.expression.Expr.TheOpen.{Expr-F, ScopedMember-F, Suffix-F, Entry-F, FieldValue-F, Operand-F}
use Rattle.hack_tree.specs.declared.expression.FieldValue.{FieldValue, roll-FieldValue}
use Rattle.hack_tree.specs.declared.expression.Operand.{Operand, roll-Operand}
use Rattle.hack_tree.specs.declared.expression.PrefixOperator.{PrefixOperator}
use Rattle.hack_tree.specs.declared.expression.PrefixOperator.TheVariants as prefix
use Rattle.hack_tree.specs.declared.expression.ScopedMember.{ScopedMember, roll-ScopedMember}
use Rattle.hack_tree.specs.declared.expression.Suffix.{Suffix, roll-Suffix, out-Suffix}
use Rattle.hack_types.specs.declared.hack_type.HackType.{HackType}
use Rattle.hack_types.specs.declared.place.Place.{Place}
use Rattle.hack_decls.specs.DeclState.{Map}
use Rattle.hack_parts.specs.Forms.{given_of, joined_of, member_of as scoped_of, pair_of, suffix_of}
use Rattle.hack_rules.specs.Chains.{Joined, binary_value, chain_by, chain_value, conditional_value, from_left, from_right, is_coalesce, prefix_value}
use Rattle.hack_rules.specs.Expressions.{ScopedMeaning, SuffixMeaning, entry_by, expression_by, field_by, meaning_of, operand_by, scoped_by, suffix_by}
use Rattle.hack_rules.specs.Meanings.{Aim, Meaning, no_aim, plain, variable}
use Rattle.hack_rules.specs.Operators.{Operation}
use Rattle.hack_rules.specs.Targets.{look_up, read}
use Rattle.hack_rules.specs.Indices.{element}
use Rattle.hack_rules.specs.Uses.{element_row, element_target, index_row, index_value, member_value, property_aim, property_value}
use Rattle.hack_rules.specs.Values.{Given, Pair, variable_value}
use Rattle.hack_rules.specs.Walks.{Setting, State, Walk, ◌>>=◌, after, pure}
use Rattle.hack_uses.specs.Aims.{behind}

-- what an expression is as a value, in either reading, is what its target is
pub record Readable (m : Meaning) : Type 0 where
  pub walk : (setting : Setting) (map : Map) (here : State) → m.walk setting map here ≡ (m.aim >>= read false) setting map here
  pub left : (setting : Setting) (map : Map) (here : State) → m.left setting map here ≡ (m.left_aim >>= read true) setting map here

-- ---- expressions that can't be assigned to, and properties

aside : (left : Bool) (at : Place) (w : Walk HackType) (setting : Setting) (map : Map) (here : State) → w setting map here ≡ (no_aim at w >>= read left) setting map here
unfolding no_aim ◌>>=◌ pure read
aside left at w setting map here = refl

pub of_plain : (at : Place) (w : Walk HackType) (assigned : List ℕ) → Readable (plain at w assigned)
of_plain at w assigned = record { walk = aside false at w; left = aside true at w }

held : (left : Bool) (w : Walk HackType) (setting : Setting) (map : Map) (here : State) → w setting map here ≡ (property_aim w >>= read left) setting map here
unfolding property_aim ◌>>=◌ pure read
held left w setting map here = refl

pub of_property : (at : Place) (w : Walk HackType) (assigned : List ℕ) → Readable (property_value at w assigned)
of_property at w assigned = record { walk = held false w; left = held true w }

-- ---- elements

module _ (base : Meaning) (index : Option Meaning) where
  element_read : Readable base → (left : Bool) (setting : Setting) (map : Map) (here : State)
      → element_row left base index setting map here ≡ (element_target base index >>= read left) setting map here
  unfolding element_row element_target ◌>>=◌ pure read
  element_read from left setting map here = ap (λ (end : HackType × State). after end (λ ty. index_row index >>= (λ typed. element base.at left ty typed)) setting map) (from.walk setting map here)

  pub of_index : Readable base → Readable (index_value base index)
  of_index from = record { walk = element_read from false; left = element_read from true }

-- ---- variables

of_variable : (left : Bool) (at : Place) (name : ℕ) (setting : Setting) (map : Map) (here : State) → look_up at name setting map here ≡ (pure (variable at name) >>= read left) setting map here
unfolding ◌>>=◌ pure read
of_variable left at name setting map here = refl

pub variable_readable : (at : Place) (name : ℕ) → Readable (variable_value at name)
variable_readable at name = record { walk = of_variable false at name; left = of_variable true at name }

-- ---- what stands behind an operand or `::`

suffix_readable : (layer : Suffix-F Meaning ScopedMeaning SuffixMeaning Pair Given Joined) (base : Meaning) → Readable base → Readable (suffix_by layer base)
unfolding suffix_by
suffix_readable (Suffix-F.Index index) base from = of_index base index from
suffix_readable (Suffix-F.Member null_safe name None) base from = of_property base.at _ _
suffix_readable (Suffix-F.Member null_safe name (Some arguments)) base from = of_plain base.at _ _
suffix_readable Suffix-F.Increment base from = of_plain base.at _ _
suffix_readable Suffix-F.Decrement base from = of_plain base.at _ _

pub one_readable : (suffix : Suffix) (base : Meaning) → Readable base → Readable (suffix_of suffix base)
one_readable suffix base from =
    subst (λ (f : SuffixMeaning). Readable (f base)) (sym (fold_out-Suffix Meaning ScopedMeaning SuffixMeaning Pair Given Joined expression_by scoped_by suffix_by entry_by field_by operand_by suffix))
    (suffix_readable _ base from)

pub behind_readable : (base : Meaning) (suffixes : List Suffix) → Readable base → Readable (behind base suffixes)
behind_readable base [] from = from
behind_readable base (suffix ∷ suffixes) from = behind_readable (suffix_of suffix base) suffixes (one_readable suffix base from)

member_readable : (layer : ScopedMember-F Meaning ScopedMeaning SuffixMeaning Pair Given Joined) (at : Place) (class : ClassReference) → Readable (scoped_by layer at class)
unfolding scoped_by
member_readable (ScopedMember-F.Property name) at class = of_property at _ _
member_readable (ScopedMember-F.Word name None) at class = of_plain at _ _
member_readable (ScopedMember-F.Word name (Some arguments)) at class = of_plain at _ _

scoped_readable : (member : ScopedMember) (at : Place) (class : ClassReference) → Readable (scoped_of member at class)
scoped_readable member at class =
    subst (λ (f : ScopedMeaning). Readable (f at class))
    (sym (fold_out-ScopedMember Meaning ScopedMeaning SuffixMeaning Pair Given Joined expression_by scoped_by suffix_by entry_by field_by operand_by member)) (member_readable _ at class)

-- ---- chains

between : (operator : BinaryOperator) (left right : Meaning) → Readable (binary_value operator left right)
between binary.Coalesce left right = of_plain left.at _ _
between binary.Or left right = record { walk = aside false left.at _; left = aside true left.at _ }
between binary.And left right = record { walk = aside false left.at _; left = aside true left.at _ }
between binary.BitOr left right = of_plain left.at _ _
between binary.BitXor left right = of_plain left.at _ _
between binary.BitAnd left right = of_plain left.at _ _
between binary.Equal left right = record { walk = aside false left.at _; left = aside true left.at _ }
between binary.NotEqual left right = record { walk = aside false left.at _; left = aside true left.at _ }
between binary.Identical left right = record { walk = aside false left.at _; left = aside true left.at _ }
between binary.NotIdentical left right = record { walk = aside false left.at _; left = aside true left.at _ }
between binary.Less left right = of_plain left.at _ _
between binary.LessEqual left right = of_plain left.at _ _
between binary.Greater left right = of_plain left.at _ _
between binary.GreaterEqual left right = of_plain left.at _ _
between binary.Spaceship left right = of_plain left.at _ _
between binary.Add left right = of_plain left.at _ _
between binary.Subtract left right = of_plain left.at _ _
between binary.Concat left right = of_plain left.at _ _
between binary.Multiply left right = of_plain left.at _ _
between binary.Divide left right = of_plain left.at _ _
between binary.Remainder left right = of_plain left.at _ _

left_readable : (first : Meaning) (others : List Joined) → Readable first → Readable (from_left first others)
unfolding from_left
left_readable first [] from = from
left_readable first (next ∷ others) from = left_readable (binary_value next.operator first next.operand) others (between next.operator first next.operand)

chained : (right : Bool) (first : Meaning) (next : Joined) (others : List Joined) → Readable first → Readable (chain_by right first (next ∷ others))
unfolding from_right
chained true first next others from = of_plain first.at _ _
chained false first next others from = left_readable first (next ∷ others) from

chain_readable : (first : Meaning) (others : List Joined) → Readable first → Readable (chain_value first others)
unfolding chain_value
chain_readable first [] from = from
chain_readable first (next ∷ others) from = chained (is_coalesce next.operator) first next others from

before : (at : Place) (operator : PrefixOperator) (operand : Meaning) → Readable (prefix_value at operator operand)
before at prefix.Not operand = record { walk = aside false at _; left = aside true at _ }
before at prefix.Minus operand = of_plain at _ _
before at prefix.Plus operand = of_plain at _ _
before at prefix.BitNot operand = of_plain at _ _
before at prefix.Increment operand = of_plain at _ _
before at prefix.Decrement operand = of_plain at _ _

-- ---- each expression, along its tree

abbrev OfExpr : Expr → Type 0
OfExpr e = Readable (meaning_of e)

-- nothing is asked of the others
abbrev Anything : {A : Type 0} → A → Type 0
Anything a = Unit {0}

abbrev ToldExpr : Type 0
ToldExpr = (e : Expr) × OfExpr e

abbrev Told : Type 0 → Type 0
Told A = (a : A) × Anything a

abbrev Layer : Type 0
Layer = Expr-F ToldExpr (Told ScopedMember) (Told Suffix) (Told Entry) (Told FieldValue) (Told Operand)

abbrev bare : Layer → Expr-F Expr ScopedMember Suffix Entry FieldValue Operand
bare = map-Expr ToldExpr (Told ScopedMember) (Told Suffix) (Told Entry) (Told FieldValue) (Told Operand) Expr ScopedMember Suffix Entry FieldValue Operand
    (λ (e : ToldExpr). e.0) (λ (e : Told ScopedMember). e.0) (λ (e : Told Suffix). e.0) (λ (e : Told Entry). e.0) (λ (e : Told FieldValue). e.0) (λ (e : Told Operand). e.0)

abbrev meant : Layer → Expr-F Meaning ScopedMeaning SuffixMeaning Pair Given Joined
meant y = map-Expr Expr ScopedMember Suffix Entry FieldValue Operand Meaning ScopedMeaning SuffixMeaning Pair Given Joined
    meaning_of scoped_of suffix_of pair_of given_of joined_of (bare y)

layer_readable : (y : Layer) → Readable (expression_by (meant y))
unfolding expression_by
layer_readable (Expr-F.Assign at target operator value) = of_plain at _ _
layer_readable (Expr-F.Conditional at condition None other) = of_plain at _ _
layer_readable (Expr-F.Conditional at condition (Some middle) other) = of_plain at _ _
layer_readable (Expr-F.Chain at first others) = chain_readable (meaning_of first.0) _ first.1
layer_readable (Expr-F.Prefix at operator operand) = before at operator (meaning_of operand.0)
layer_readable (Expr-F.Cast at to operand) = of_plain at _ _
layer_readable (Expr-F.Power at operands) = of_plain at _ _
layer_readable (Expr-F.Test at operand tests) = record { walk = aside false _ _; left = aside true _ _ }
layer_readable (Expr-F.Postfix at operand suffixes) = behind_readable (meaning_of operand.0) (map (λ (e : Told Suffix). e.0) suffixes) operand.1
layer_readable (Expr-F.Bracketed at inner) = record { walk = aside false at _; left = aside true at _ }
layer_readable (Expr-F.Literal at literal) = record { walk = aside false at _; left = aside true at _ }
layer_readable (Expr-F.Variable at name) = variable_readable at name
layer_readable (Expr-F.This at) = of_plain at _ _
layer_readable (Expr-F.Constant at name) = of_plain at _ _
layer_readable (Expr-F.Call at name arguments) = of_plain at _ _
layer_readable (Expr-F.Scoped at class member) = scoped_readable member.0 at class
layer_readable (Expr-F.New at class_at class types arguments) = of_plain at _ _
layer_readable (Expr-F.Container at container elements) = of_plain at _ _
layer_readable (Expr-F.Dict at entries) = of_plain at _ _
layer_readable (Expr-F.Shape at fields) = of_plain at _ _

of_expr : (x : Expr-F Expr ScopedMember Suffix Entry FieldValue Operand) (y : Layer) → bare y ≡ x → OfExpr (roll-Expr x)
of_expr x y is = subst (λ z. OfExpr (roll-Expr z)) is
    (subst Readable (sym (fold-roll-Expr Meaning ScopedMeaning SuffixMeaning Pair Given Joined expression_by scoped_by suffix_by entry_by field_by operand_by (bare y)))
    (layer_readable y))

pub readable : (e : Expr) → Readable (meaning_of e)
readable = ind-Expr OfExpr Anything Anything Anything Anything Anything of_expr (λ x y is. tt) (λ x y is. tt) (λ x y is. tt) (λ x y is. tt) (λ x y is. tt)
