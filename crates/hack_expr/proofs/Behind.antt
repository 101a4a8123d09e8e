-- What stands behind an operand, behind `::` and in a chain: as conditions these say nothing of variables, and which of them is a target.
use Rattle.std.proofs.Common.{◌≡◌, ◌∙◌, ◌<◌, ◌≤◌, ℕ, Bool, true, false, Option, Some, None, List, [], ◌∷◌, length, map, refl, sym, ap, subst, arith}
use Rattle.hack_tree.specs.declared.expression.BinaryOperator.{BinaryOperator}
use Rattle.hack_tree.specs.declared.expression.BinaryOperator.TheVariants as binary
use Rattle.hack_tree.specs.declared.expression.ClassReference.{ClassReference}
use Rattle.hack_tree.specs.declared.expression.Expr.{Expr}
use Rattle.hack_tree.specs.declared.expression.Expr.TheFolds.{fold_out-ScopedMember, fold_out-Suffix}
use Rattle.hack_tree.specs.declared.expression.Expr.TheOpen.{ScopedMember-F, Suffix-F}
use Rattle.hack_tree.specs.declared.expression.Expr.TheVariants as e
use Rattle.hack_tree.specs.declared.expression.Operand.{Operand}
use Rattle.hack_tree.specs.declared.expression.PrefixOperator.{PrefixOperator}
use Rattle.hack_tree.specs.declared.expression.PrefixOperator.TheVariants as operator
use Rattle.hack_tree.specs.declared.expression.ScopedMember.{ScopedMember}
use Rattle.hack_tree.specs.declared.expression.ScopedMember.TheVariants as member
use Rattle.hack_tree.specs.declared.expression.Suffix.{Suffix}
use Rattle.hack_types.specs.declared.place.Place.{Place}
use Rattle.hack_parts.specs.ExprMeanings as one
use Rattle.hack_parts.specs.Forms.{joined_of, member_of, suffix_of}
use Rattle.hack_parts.specs.Parts.{value_of, walk_by}
use Rattle.hack_parts.specs.declared.reading.Reading.{Reading}
use Rattle.hack_parts.specs.declared.reading.Reading.TheVariants as reading
use Rattle.hack_rules.specs.Chains.{Joined, binary_value, chain_by, chain_value, from_left, from_right, is_coalesce}
use Rattle.hack_rules.specs.Expressions.{ScopedMeaning, SuffixMeaning, entry_by, expression_by, field_by, meaning_of, operand_by, scoped_by, suffix_by}
use Rattle.hack_rules.specs.Meanings.{Meaning, no_aim, plain_branches}
use Rattle.hack_rules.specs.Values.{Given, Pair}
use Rattle.hack_uses.specs.Aims.{aim_by, behind as under}

-- ---- as conditions

abbrev SaysNothing : Meaning → Type 0
SaysNothing m = m.branches ≡ plain_branches m.walk

suffix_says : (layer : Suffix-F Meaning ScopedMeaning SuffixMeaning Pair Given Joined) (base : Meaning) → SaysNothing (suffix_by layer base)
unfolding suffix_by
suffix_says (Suffix-F.Index None) base = refl
suffix_says (Suffix-F.Index (Some index)) base = refl
suffix_says (Suffix-F.Member null_safe name None) base = refl
suffix_says (Suffix-F.Member null_safe name (Some arguments)) base = refl
suffix_says Suffix-F.Increment base = refl
suffix_says Suffix-F.Decrement base = refl

one_suffix : (suffix : Suffix) (base : Meaning) → SaysNothing (suffix_of suffix base)
one_suffix suffix base = subst (λ (f : SuffixMeaning). SaysNothing (f base)) (sym (fold_out-Suffix Meaning ScopedMeaning SuffixMeaning Pair Given Joined expression_by scoped_by suffix_by entry_by field_by operand_by suffix)) (suffix_says _ base)

more_suffixes : (base : Meaning) (suffixes : List Suffix) → SaysNothing base → SaysNothing (under base suffixes)
more_suffixes base [] says = says
more_suffixes base (suffix ∷ suffixes) says = more_suffixes (suffix_of suffix base) suffixes (one_suffix suffix base)

of_suffixes : (at : Place) (operand : Expr) (suffixes : List Suffix) → 0 < length suffixes → SaysNothing (meaning_of (e.Postfix at operand suffixes))
of_suffixes at operand [] more = absurd (omega (arith, more))
of_suffixes at operand (suffix ∷ suffixes) more =
    subst SaysNothing (sym (one.postfix at operand (suffix ∷ suffixes))) (more_suffixes (suffix_of suffix (meaning_of operand)) suffixes (one_suffix suffix (meaning_of operand)))

-- behind at least one suffix
pub postfix_says_nothing : {whole : Expr} (at : Place) (operand : Expr) (suffixes : List Suffix) → whole ≡ e.Postfix at operand suffixes → 0 < length suffixes
    → (meaning_of whole).branches ≡ plain_branches (value_of whole)
postfix_says_nothing at operand suffixes is more = subst (λ (x : Expr). SaysNothing (meaning_of x)) (sym is) (of_suffixes at operand suffixes more)

-- behind none
pub no_postfix : (at : Place) (operand : Expr) (suffixes : List Suffix) → length suffixes ≤ 0 → meaning_of (e.Postfix at operand suffixes) ≡ meaning_of operand
no_postfix at operand [] none = one.postfix at operand []
no_postfix at operand (suffix ∷ suffixes) none = absurd (omega (arith, none))

-- ---- behind `::`

abbrev of_layer : (what : ScopedMember) (at : Place) (class : ClassReference) (P : Meaning → Type 0)
    → ((layer : ScopedMember-F Meaning ScopedMeaning SuffixMeaning Pair Given Joined) → P (scoped_by layer at class)) → P (member_of what at class)
of_layer what at class P all = subst (λ (f : ScopedMeaning). P (f at class)) (sym (fold_out-ScopedMember Meaning ScopedMeaning SuffixMeaning Pair Given Joined expression_by scoped_by suffix_by entry_by field_by operand_by what)) (all _)

member_says : (at : Place) (class : ClassReference) (layer : ScopedMember-F Meaning ScopedMeaning SuffixMeaning Pair Given Joined) → SaysNothing (scoped_by layer at class)
unfolding scoped_by
member_says at class (ScopedMember-F.Property name) = refl
member_says at class (ScopedMember-F.Word name None) = refl
member_says at class (ScopedMember-F.Word name (Some arguments)) = refl

pub scoped_says_nothing : {whole : Expr} (at : Place) (class : ClassReference) (what : ScopedMember) → whole ≡ e.Scoped at class what
    → (meaning_of whole).branches ≡ plain_branches (value_of whole)
scoped_says_nothing at class what is = subst (λ (x : Expr). SaysNothing (meaning_of x)) (sym is) (subst SaysNothing (sym (one.scoped at class what)) (of_layer what at class SaysNothing (member_says at class)))

member_left : (at : Place) (class : ClassReference) (layer : ScopedMember-F Meaning ScopedMeaning SuffixMeaning Pair Given Joined) → (scoped_by layer at class).left ≡ (scoped_by layer at class).walk
unfolding scoped_by
member_left at class (ScopedMember-F.Property name) = refl
member_left at class (ScopedMember-F.Word name None) = refl
member_left at class (ScopedMember-F.Word name (Some arguments)) = refl

-- it says the same in both readings
pub left_of_scoped : (what : ScopedMember) (at : Place) (class : ClassReference) → (member_of what at class).left ≡ (member_of what at class).walk
left_of_scoped what at class = of_layer what at class (λ (m : Meaning). m.left ≡ m.walk) (member_left at class)

-- ---- as targets

-- in either reading it is typed in that reading, and can't be assigned to
pub record NoTarget (m : Meaning) : Type 0 where
  pub aim : m.aim ≡ no_aim m.at m.walk
  pub left : m.left_aim ≡ no_aim m.at m.left

both : {m : Meaning} → NoTarget m → (r : Reading) → aim_by r m ≡ no_aim m.at (walk_by r m)
both not_one reading.Value = not_one.aim
both not_one reading.Left = not_one.left

-- a form that can't be assigned to
pub is_no_target : {whole form : Expr} {m : Meaning} (r : Reading) → whole ≡ form → meaning_of form ≡ m → m.aim ≡ no_aim m.at m.walk → m.left_aim ≡ no_aim m.at m.left
    → aim_by r (meaning_of whole) ≡ no_aim (meaning_of whole).at (walk_by r (meaning_of whole))
is_no_target r is means aim left = both (subst NoTarget (sym (ap meaning_of is ∙ means)) (record { aim = aim; left = left })) r

no_choice : (at : Place) (c : Expr) (middle : Option Expr) (other : Expr) → NoTarget (meaning_of (e.Conditional at c middle other))
no_choice at c None other = subst NoTarget (sym (one.short at c other)) (record { aim = refl; left = refl })
no_choice at c (Some middle) other = subst NoTarget (sym (one.conditional at c middle other)) (record { aim = refl; left = refl })

pub choice_is_no_target : {whole : Expr} (r : Reading) (at : Place) (c : Expr) (middle : Option Expr) (other : Expr) → whole ≡ e.Conditional at c middle other
    → aim_by r (meaning_of whole) ≡ no_aim (meaning_of whole).at (walk_by r (meaning_of whole))
choice_is_no_target r at c middle other is = both (subst (λ (x : Expr). NoTarget (meaning_of x)) (sym is) (no_choice at c middle other)) r

no_prefix : (at : Place) (o : PrefixOperator) (operand : Expr) → NoTarget (meaning_of (e.Prefix at o operand))
no_prefix at operator.Not operand = subst NoTarget (sym (one.prefix at operator.Not operand)) (record { aim = refl; left = refl })
no_prefix at operator.Minus operand = subst NoTarget (sym (one.prefix at operator.Minus operand)) (record { aim = refl; left = refl })
no_prefix at operator.Plus operand = subst NoTarget (sym (one.prefix at operator.Plus operand)) (record { aim = refl; left = refl })
no_prefix at operator.BitNot operand = subst NoTarget (sym (one.prefix at operator.BitNot operand)) (record { aim = refl; left = refl })
no_prefix at operator.Increment operand = subst NoTarget (sym (one.prefix at operator.Increment operand)) (record { aim = refl; left = refl })
no_prefix at operator.Decrement operand = subst NoTarget (sym (one.prefix at operator.Decrement operand)) (record { aim = refl; left = refl })

pub prefix_is_no_target : {whole : Expr} (r : Reading) (at : Place) (o : PrefixOperator) (operand : Expr) → whole ≡ e.Prefix at o operand
    → aim_by r (meaning_of whole) ≡ no_aim (meaning_of whole).at (walk_by r (meaning_of whole))
prefix_is_no_target r at o operand is = both (subst (λ (x : Expr). NoTarget (meaning_of x)) (sym is) (no_prefix at o operand)) r

-- a word behind `::`
no_word : (at : Place) (class : ClassReference) (name : ℕ) (arguments : Option (List Expr)) → NoTarget (meaning_of (e.Scoped at class (member.Word name arguments)))
no_word at class name None = subst NoTarget (sym (one.scoped at class (member.Word name None) ∙ ap (λ (f : ScopedMeaning). f at class) (one.word_none name))) (record { aim = refl; left = refl })
no_word at class name (Some arguments) =
    subst NoTarget (sym (one.scoped at class (member.Word name (Some arguments)) ∙ ap (λ (f : ScopedMeaning). f at class) (one.word_some name arguments))) (record { aim = refl; left = refl })

pub word_is_no_target : {whole : Expr} {at : Place} {class : ClassReference} {what : ScopedMember} (r : Reading) (name : ℕ) (arguments : Option (List Expr)) → whole ≡ e.Scoped at class what
    → what ≡ member.Word name arguments → aim_by r (meaning_of whole) ≡ no_aim (meaning_of whole).at (walk_by r (meaning_of whole))
word_is_no_target {at = at} {class = class} r name arguments is same =
    both (subst (λ (x : Expr). NoTarget (meaning_of x)) (sym (is ∙ ap (λ (m : ScopedMember). e.Scoped at class m) same)) (no_word at class name arguments)) r

-- operands with operators between them
between : (operator : BinaryOperator) (left right : Meaning) → NoTarget (binary_value operator left right)
between binary.Coalesce left right = record { aim = refl; left = refl }
between binary.Or left right = record { aim = refl; left = refl }
between binary.And left right = record { aim = refl; left = refl }
between binary.BitOr left right = record { aim = refl; left = refl }
between binary.BitXor left right = record { aim = refl; left = refl }
between binary.BitAnd left right = record { aim = refl; left = refl }
between binary.Equal left right = record { aim = refl; left = refl }
between binary.NotEqual left right = record { aim = refl; left = refl }
between binary.Identical left right = record { aim = refl; left = refl }
between binary.NotIdentical left right = record { aim = refl; left = refl }
between binary.Less left right = record { aim = refl; left = refl }
between binary.LessEqual left right = record { aim = refl; left = refl }
between binary.Greater left right = record { aim = refl; left = refl }
between binary.GreaterEqual left right = record { aim = refl; left = refl }
between binary.Spaceship left right = record { aim = refl; left = refl }
between binary.Add left right = record { aim = refl; left = refl }
between binary.Subtract left right = record { aim = refl; left = refl }
between binary.Concat left right = record { aim = refl; left = refl }
between binary.Multiply left right = record { aim = refl; left = refl }
between binary.Divide left right = record { aim = refl; left = refl }
between binary.Remainder left right = record { aim = refl; left = refl }

left_no : (first : Meaning) (others : List Joined) → NoTarget first → NoTarget (from_left first others)
unfolding from_left
left_no first [] is = is
left_no first (next ∷ others) is = left_no (binary_value next.operator first next.operand) others (between next.operator first next.operand)

chained : (right : Bool) (first : Meaning) (next : Joined) (others : List Joined) → NoTarget (chain_by right first (next ∷ others))
unfolding from_left from_right
chained true first next others = record { aim = refl; left = refl }
chained false first next others = left_no (binary_value next.operator first next.operand) others (between next.operator first next.operand)

no_chain_target : (at : Place) (first : Expr) (others : List Operand) → 0 < length others → NoTarget (meaning_of (e.Chain at first others))
unfolding chain_value
no_chain_target at first [] more = absurd (omega (arith, more))
no_chain_target at first (next ∷ others) more =
    subst NoTarget (sym (one.chain at first (next ∷ others))) (chained (is_coalesce (joined_of next).operator) (meaning_of first) (joined_of next) (map joined_of others))

pub chain_is_no_target : {whole : Expr} (r : Reading) (at : Place) (first : Expr) (others : List Operand) → whole ≡ e.Chain at first others → 0 < length others
    → aim_by r (meaning_of whole) ≡ no_aim (meaning_of whole).at (walk_by r (meaning_of whole))
chain_is_no_target r at first others is more = both (subst (λ (x : Expr). NoTarget (meaning_of x)) (sym is) (no_chain_target at first others more)) r

-- and with none
pub no_chain : (at : Place) (first : Expr) (others : List Operand) → length others ≤ 0 → meaning_of (e.Chain at first others) ≡ meaning_of first
unfolding chain_value
no_chain at first [] none = one.chain at first []
no_chain at first (next ∷ others) none = absurd (omega (arith, none))
