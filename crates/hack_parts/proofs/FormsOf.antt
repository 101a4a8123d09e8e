-- Which expressions are a variable, `null` or a key string.
use Rattle.std.proofs.Common.{◌≡◌, ◌∙◌, ◌<◌, ◌≤◌, arith, Bool, true, false, Option, Some, None, List, [], ◌∷◌, length, map, refl, sym, ap, subst}
use Rattle.std.specs.List.{fold}
use Rattle.hack_tree.specs.declared.expression.BinaryOperator.{BinaryOperator}
use Rattle.hack_tree.specs.declared.expression.BinaryOperator.TheVariants as binary
use Rattle.hack_tree.specs.declared.expression.ClassReference.{ClassReference}
use Rattle.hack_tree.specs.declared.expression.Expr.{Expr}
use Rattle.hack_tree.specs.declared.expression.Expr.TheFolds.{fold_out-ScopedMember, fold_out-Suffix}
use Rattle.hack_tree.specs.declared.expression.Expr.TheOpen.{ScopedMember-F, Suffix-F}
use Rattle.hack_tree.specs.declared.expression.Expr.TheVariants as e
use Rattle.hack_tree.specs.declared.expression.Operand.{Operand}
use Rattle.hack_tree.specs.declared.expression.PrefixOperator.{PrefixOperator}
use Rattle.hack_tree.specs.declared.expression.PrefixOperator.TheVariants as prefix
use Rattle.hack_tree.specs.declared.expression.ScopedMember.{ScopedMember}
use Rattle.hack_tree.specs.declared.expression.Suffix.{Suffix}
use Rattle.hack_tree.specs.declared.expression.AssignOperator.{AssignOperator}
use Rattle.hack_types.specs.declared.place.Place.{Place}
use Rattle.hack_rules.specs.Chains.{Joined, binary_value, chain_by, chain_value, from_left, from_right, is_coalesce}
use Rattle.hack_rules.specs.Expressions.{ScopedMeaning, SuffixMeaning, entry_by, expression_by, field_by, meaning_of, operand_by, scoped_by, suffix_by}
use Rattle.hack_rules.specs.Meanings.{Meaning}
use Rattle.hack_rules.specs.Values.{Given, Pair}
use Rattle.hack_parts.specs.ExprMeanings as one
use Rattle.hack_parts.specs.Forms.{IsForm, joined_of, suffix_of}
use Rattle.hack_parts.specs.declared.form.Form.{Form}

-- neither a variable nor `null` nor a key string
abbrev pub other : Form
other = record { subject = None; is_null = false; key = None }

abbrev pub IsOther : Meaning → Type 0
IsOther = IsForm other

-- an expression of which no row asks more than its type
abbrev pub told : {m : Meaning} → None ≡ m.subject → false ≡ m.is_null → None ≡ m.key → IsOther m
told one two three = record { subject = one; is_null = two; key = three }

pub from : {form : Form} {m n : Meaning} → m ≡ n → IsForm form n → IsForm form m
from {form = form} is here = subst (IsForm form) (sym is) here

pub of_assign : (at : Place) (target : Expr) (operator : AssignOperator) (value : Expr) → IsOther (meaning_of (e.Assign at target operator value))
of_assign at target operator value = from (one.assign at target operator value) (told refl refl refl)

pub of_conditional : (at : Place) (condition : Expr) (middle : Option Expr) (other_part : Expr) → IsOther (meaning_of (e.Conditional at condition middle other_part))
of_conditional at condition None other_part = from (one.short at condition other_part) (told refl refl refl)
of_conditional at condition (Some middle) other_part = from (one.conditional at condition middle other_part) (told refl refl refl)

pub of_prefix : (at : Place) (operator : PrefixOperator) (operand : Expr) → IsOther (meaning_of (e.Prefix at operator operand))
of_prefix at prefix.Not operand = from (one.prefix at prefix.Not operand) (told refl refl refl)
of_prefix at prefix.Minus operand = from (one.prefix at prefix.Minus operand) (told refl refl refl)
of_prefix at prefix.Plus operand = from (one.prefix at prefix.Plus operand) (told refl refl refl)
of_prefix at prefix.BitNot operand = from (one.prefix at prefix.BitNot operand) (told refl refl refl)
of_prefix at prefix.Increment operand = from (one.prefix at prefix.Increment operand) (told refl refl refl)
of_prefix at prefix.Decrement operand = from (one.prefix at prefix.Decrement operand) (told refl refl refl)

-- ---- chains

between : (operator : BinaryOperator) (left right : Meaning) → IsOther (binary_value operator left right)
between binary.Coalesce left right = told refl refl refl
between binary.Or left right = told refl refl refl
between binary.And left right = told refl refl refl
between binary.BitOr left right = told refl refl refl
between binary.BitXor left right = told refl refl refl
between binary.BitAnd left right = told refl refl refl
between binary.Equal left right = told refl refl refl
between binary.NotEqual left right = told refl refl refl
between binary.Identical left right = told refl refl refl
between binary.NotIdentical left right = told refl refl refl
between binary.Less left right = told refl refl refl
between binary.LessEqual left right = told refl refl refl
between binary.Greater left right = told refl refl refl
between binary.GreaterEqual left right = told refl refl refl
between binary.Spaceship left right = told refl refl refl
between binary.Add left right = told refl refl refl
between binary.Subtract left right = told refl refl refl
between binary.Concat left right = told refl refl refl
between binary.Multiply left right = told refl refl refl
between binary.Divide left right = told refl refl refl
between binary.Remainder left right = told refl refl refl

left_other : (first : Meaning) (others : List Joined) → IsOther first → IsOther (from_left first others)
unfolding from_left
left_other first [] is = is
left_other first (next ∷ others) is = left_other (binary_value next.operator first next.operand) others (between next.operator first next.operand)

-- behind at least one operator
chained : (right : Bool) (first : Meaning) (next : Joined) (others : List Joined) → IsOther (chain_by right first (next ∷ others))
unfolding from_left from_right
chained true first next others = told refl refl refl
chained false first next others = left_other (binary_value next.operator first next.operand) others (between next.operator first next.operand)

pub of_chain : (at : Place) (first : Expr) (others : List Operand) → 0 < length others → IsOther (meaning_of (e.Chain at first others))
unfolding chain_value
of_chain at first [] more = absurd (omega (arith, more))
of_chain at first (next ∷ others) more =
    from (one.chain at first (next ∷ others)) (chained (is_coalesce (joined_of next).operator) (meaning_of first) (joined_of next) (map joined_of others))

pub of_no_chain : {form : Form} (at : Place) (first : Expr) (others : List Operand) → length others ≤ 0 → IsForm form (meaning_of first) → IsForm form (meaning_of (e.Chain at first others))
unfolding chain_value
of_no_chain at first [] none is = from (one.chain at first []) is
of_no_chain at first (next ∷ others) none is = absurd (omega (arith, none))

-- ---- what stands behind operands

suffix_other : (layer : Suffix-F Meaning ScopedMeaning SuffixMeaning Pair Given Joined) (base : Meaning) → IsOther (suffix_by layer base)
unfolding suffix_by
suffix_other (Suffix-F.Index None) base = told refl refl refl
suffix_other (Suffix-F.Index (Some index)) base = told refl refl refl
suffix_other (Suffix-F.Member null_safe name None) base = told refl refl refl
suffix_other (Suffix-F.Member null_safe name (Some arguments)) base = told refl refl refl
suffix_other Suffix-F.Increment base = told refl refl refl
suffix_other Suffix-F.Decrement base = told refl refl refl

one_suffix : (suffix : Suffix) (base : Meaning) → IsOther (suffix_of suffix base)
one_suffix suffix base = subst (λ (f : SuffixMeaning). IsOther (f base)) (sym (fold_out-Suffix Meaning ScopedMeaning SuffixMeaning Pair Given Joined expression_by scoped_by suffix_by entry_by field_by operand_by suffix)) (suffix_other _ base)

abbrev behind : Meaning → List Suffix → Meaning
behind base suffixes = fold (λ (b : Meaning) (s : SuffixMeaning). s b) base (map suffix_of suffixes)

more_suffixes : (base : Meaning) (suffixes : List Suffix) → IsOther base → IsOther (behind base suffixes)
more_suffixes base [] is = is
more_suffixes base (suffix ∷ suffixes) is = more_suffixes (suffix_of suffix base) suffixes (one_suffix suffix base)

pub of_postfix : (at : Place) (operand : Expr) (suffixes : List Suffix) → 0 < length suffixes → IsOther (meaning_of (e.Postfix at operand suffixes))
of_postfix at operand [] more = absurd (omega (arith, more))
of_postfix at operand (suffix ∷ suffixes) more =
    from (one.postfix at operand (suffix ∷ suffixes)) (more_suffixes (suffix_of suffix (meaning_of operand)) suffixes (one_suffix suffix (meaning_of operand)))

pub of_no_postfix : {form : Form} (at : Place) (operand : Expr) (suffixes : List Suffix) → length suffixes ≤ 0 → IsForm form (meaning_of operand)
    → IsForm form (meaning_of (e.Postfix at operand suffixes))
of_no_postfix at operand [] none is = from (one.postfix at operand []) is
of_no_postfix at operand (suffix ∷ suffixes) none is = absurd (omega (arith, none))

-- ---- what stands behind `::`

member_other : (layer : ScopedMember-F Meaning ScopedMeaning SuffixMeaning Pair Given Joined) (at : Place) (class : ClassReference) → IsOther (scoped_by layer at class)
unfolding scoped_by
member_other (ScopedMember-F.Property name) at class = told refl refl refl
member_other (ScopedMember-F.Word name None) at class = told refl refl refl
member_other (ScopedMember-F.Word name (Some arguments)) at class = told refl refl refl

pub of_scoped : (at : Place) (class : ClassReference) (member : ScopedMember) → IsOther (meaning_of (e.Scoped at class member))
of_scoped at class member =
    from (one.scoped at class member ∙ ap (λ (f : ScopedMeaning). f at class) (fold_out-ScopedMember Meaning ScopedMeaning SuffixMeaning Pair Given Joined expression_by scoped_by suffix_by entry_by field_by operand_by member)) (member_other _ at class)
