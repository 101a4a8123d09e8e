-- Where expressions begin.
use Rattle.std.proofs.Common.{◌≡◌, ◌∙◌, Bool, true, false, Option, Some, None, List, [], ◌∷◌, map, refl, ap}
use Rattle.std.specs.List.{fold}
use Rattle.hack_tree.specs.declared.expression.BinaryOperator.{BinaryOperator}
use Rattle.hack_tree.specs.declared.expression.BinaryOperator.TheVariants as binary
use Rattle.hack_tree.specs.declared.expression.ClassReference.{ClassReference}
use Rattle.hack_tree.specs.declared.expression.Expr.{Expr}
use Rattle.hack_tree.specs.declared.expression.Expr.TheFolds.{fold_out-ScopedMember, fold_out-Suffix}
use Rattle.hack_tree.specs.declared.expression.Expr.TheOpen.{ScopedMember-F, Suffix-F}
use Rattle.hack_tree.specs.declared.expression.Expr.TheVariants as e
use Rattle.hack_tree.specs.declared.expression.Operand.{Operand}
use Rattle.hack_tree.specs.declared.expression.PrefixOperator.{PrefixOperator}
use Rattle.hack_tree.specs.declared.expression.PrefixOperator.TheVariants as prefix
use Rattle.hack_tree.specs.declared.expression.ScopedMember.{ScopedMember}
use Rattle.hack_tree.specs.declared.expression.Suffix.{Suffix}
use Rattle.hack_types.specs.declared.place.Place.{Place}
use Rattle.hack_rules.specs.Chains.{Joined, binary_value, chain_by, chain_value, from_left, from_right, is_coalesce}
use Rattle.hack_rules.specs.Expressions.{ScopedMeaning, SuffixMeaning, entry_by, expression_by, field_by, meaning_of, operand_by, scoped_by, suffix_by}
use Rattle.hack_rules.specs.Meanings.{Meaning}
use Rattle.hack_rules.specs.Values.{Given, Pair}
use Rattle.hack_parts.specs.ExprMeanings as one
use Rattle.hack_parts.specs.Forms.{joined_of, suffix_of}

abbrev at_of : Meaning → Place
at_of meaning = meaning.at

pub of_conditional : (at : Place) (condition : Expr) (middle : Option Expr) (other : Expr) → at_of (meaning_of (e.Conditional at condition middle other)) ≡ at
of_conditional at condition None other = ap at_of (one.short at condition other)
of_conditional at condition (Some middle) other = ap at_of (one.conditional at condition middle other)

pub of_prefix : (at : Place) (operator : PrefixOperator) (operand : Expr) → at_of (meaning_of (e.Prefix at operator operand)) ≡ at
of_prefix at prefix.Not operand = ap at_of (one.prefix at prefix.Not operand)
of_prefix at prefix.Minus operand = ap at_of (one.prefix at prefix.Minus operand)
of_prefix at prefix.Plus operand = ap at_of (one.prefix at prefix.Plus operand)
of_prefix at prefix.BitNot operand = ap at_of (one.prefix at prefix.BitNot operand)
of_prefix at prefix.Increment operand = ap at_of (one.prefix at prefix.Increment operand)
of_prefix at prefix.Decrement operand = ap at_of (one.prefix at prefix.Decrement operand)

-- ---- chains

between : (operator : BinaryOperator) (left right : Meaning) → at_of (binary_value operator left right) ≡ at_of left
between binary.Coalesce left right = refl
between binary.Or left right = refl
between binary.And left right = refl
between binary.BitOr left right = refl
between binary.BitXor left right = refl
between binary.BitAnd left right = refl
between binary.Equal left right = refl
between binary.NotEqual left right = refl
between binary.Identical left right = refl
between binary.NotIdentical left right = refl
between binary.Less left right = refl
between binary.LessEqual left right = refl
between binary.Greater left right = refl
between binary.GreaterEqual left right = refl
between binary.Spaceship left right = refl
between binary.Add left right = refl
between binary.Subtract left right = refl
between binary.Concat left right = refl
between binary.Multiply left right = refl
between binary.Divide left right = refl
between binary.Remainder left right = refl

left_first : (first : Meaning) (others : List Joined) → at_of (from_left first others) ≡ at_of first
unfolding from_left
left_first first [] = refl
left_first first (next ∷ others) = left_first (binary_value next.operator first next.operand) others ∙ between next.operator first next.operand

right_first : (first : Meaning) (others : List Joined) → at_of (from_right first others) ≡ at_of first
unfolding from_right
right_first first [] = refl
right_first first (next ∷ others) = refl

first_of : (right : Bool) (first : Meaning) (others : List Joined) → at_of (chain_by right first others) ≡ at_of first
first_of true first others = right_first first others
first_of false first others = left_first first others

chained : (first : Meaning) (others : List Joined) → at_of (chain_value first others) ≡ at_of first
unfolding chain_value
chained first [] = refl
chained first (next ∷ others) = first_of (is_coalesce next.operator) first (next ∷ others)

pub of_chain : (at : Place) (first : Expr) (others : List Operand) → at_of (meaning_of (e.Chain at first others)) ≡ at_of (meaning_of first)
of_chain at first others = ap at_of (one.chain at first others) ∙ chained (meaning_of first) (map joined_of others)

-- ---- what stands behind `::` and behind operands

member_at : (layer : ScopedMember-F Meaning ScopedMeaning SuffixMeaning Pair Given Joined) (at : Place) (class : ClassReference) → at_of (scoped_by layer at class) ≡ at
unfolding scoped_by
member_at (ScopedMember-F.Property name) at class = refl
member_at (ScopedMember-F.Word name None) at class = refl
member_at (ScopedMember-F.Word name (Some arguments)) at class = refl

pub of_scoped : (at : Place) (class : ClassReference) (member : ScopedMember) → at_of (meaning_of (e.Scoped at class member)) ≡ at
of_scoped at class member =
    ap at_of (one.scoped at class member) ∙ ap (λ (f : ScopedMeaning). at_of (f at class)) (fold_out-ScopedMember Meaning ScopedMeaning SuffixMeaning Pair Given Joined expression_by scoped_by suffix_by entry_by field_by operand_by member) ∙ member_at _ at class

suffix_at : (layer : Suffix-F Meaning ScopedMeaning SuffixMeaning Pair Given Joined) (base : Meaning) → at_of (suffix_by layer base) ≡ at_of base
unfolding suffix_by
suffix_at (Suffix-F.Index None) base = refl
suffix_at (Suffix-F.Index (Some index)) base = refl
suffix_at (Suffix-F.Member null_safe name None) base = refl
suffix_at (Suffix-F.Member null_safe name (Some arguments)) base = refl
suffix_at Suffix-F.Increment base = refl
suffix_at Suffix-F.Decrement base = refl

suffixes_at : (base : Meaning) (suffixes : List Suffix) → at_of (fold (λ (b : Meaning) (s : SuffixMeaning). s b) base (map suffix_of suffixes)) ≡ at_of base
suffixes_at base [] = refl
suffixes_at base (suffix ∷ suffixes) =
    suffixes_at (suffix_of suffix base) suffixes ∙ ap (λ (f : SuffixMeaning). at_of (f base)) (fold_out-Suffix Meaning ScopedMeaning SuffixMeaning Pair Given Joined expression_by scoped_by suffix_by entry_by field_by operand_by suffix) ∙ suffix_at _ base

pub of_postfix : (at : Place) (operand : Expr) (suffixes : List Suffix) → at_of (meaning_of (e.Postfix at operand suffixes)) ≡ at_of (meaning_of operand)
of_postfix at operand suffixes = ap at_of (one.postfix at operand suffixes) ∙ suffixes_at (meaning_of operand) suffixes
