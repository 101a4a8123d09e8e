-- The variable that each form of expression changes as a target.
use Rattle.std.proofs.Common.{◌≡◌, ◌∙◌, ◌<◌, ◌≤◌, ℕ, Option, Some, None, List, [], length, refl, sym, ap}
use Rattle.hack_tree.specs.declared.expression.ClassReference.{ClassReference}
use Rattle.hack_tree.specs.declared.expression.Expr.{Expr}
use Rattle.hack_tree.specs.declared.expression.Expr.TheFolds.{fold_out-ScopedMember}
use Rattle.hack_tree.specs.declared.expression.Expr.TheOpen.{ScopedMember-F}
use Rattle.hack_tree.specs.declared.expression.Expr.TheVariants as e
use Rattle.hack_tree.specs.declared.expression.Operand.{Operand}
use Rattle.hack_tree.specs.declared.expression.PrefixOperator.{PrefixOperator}
use Rattle.hack_tree.specs.declared.expression.PrefixOperator.TheVariants as prefix
use Rattle.hack_tree.specs.declared.expression.ScopedMember.{ScopedMember}
use Rattle.hack_tree.specs.declared.expression.Suffix.{Suffix}
use Rattle.hack_types.specs.declared.place.Place.{Place}
use Rattle.hack_rules.specs.Chains.{Joined}
use Rattle.hack_rules.specs.Expressions.{ScopedMeaning, SuffixMeaning, entry_by, expression_by, field_by, meaning_of, operand_by, scoped_by, suffix_by}
use Rattle.hack_rules.specs.Meanings.{Meaning}
use Rattle.hack_rules.specs.Values.{Given, Pair}
use Rattle.hack_parts.specs.ExprMeanings as one
use Rattle.hack_assigned.specs.inside.Suffixes.{kept_behind}
use Rattle.hack_assigned.proofs.Chained.{chain_of_one, chain_rootless}
use Rattle.hack_assigned.proofs.Suffixed.{all_kept}

abbrev pub root : Meaning → List ℕ
root m = m.roots

abbrev pub roots_of : Expr → List ℕ
roots_of e = (meaning_of e).roots

-- by what an expression means
pub of_meaning : {whole form : Expr} {m : Meaning} → whole ≡ form → meaning_of form ≡ m → m.roots ≡ roots_of whole
of_meaning is what = sym (ap roots_of is ∙ ap root what)

pub of_conditional : {whole : Expr} (at : Place) (condition : Expr) (middle : Option Expr) (other : Expr) → whole ≡ e.Conditional at condition middle other → [] ≡ roots_of whole
of_conditional at condition None other is = of_meaning is (one.short at condition other)
of_conditional at condition (Some middle) other is = of_meaning is (one.conditional at condition middle other)

pub of_prefix : {whole : Expr} (at : Place) (operator : PrefixOperator) (operand : Expr) → whole ≡ e.Prefix at operator operand → [] ≡ roots_of whole
of_prefix at prefix.Not operand is = of_meaning is (one.prefix at prefix.Not operand)
of_prefix at prefix.Minus operand is = of_meaning is (one.prefix at prefix.Minus operand)
of_prefix at prefix.Plus operand is = of_meaning is (one.prefix at prefix.Plus operand)
of_prefix at prefix.BitNot operand is = of_meaning is (one.prefix at prefix.BitNot operand)
of_prefix at prefix.Increment operand is = of_meaning is (one.prefix at prefix.Increment operand)
of_prefix at prefix.Decrement operand is = of_meaning is (one.prefix at prefix.Decrement operand)

member_root : (layer : ScopedMember-F Meaning ScopedMeaning SuffixMeaning Pair Given Joined) (at : Place) (class : ClassReference) → (scoped_by layer at class).roots ≡ []
unfolding scoped_by
member_root (ScopedMember-F.Property name) at class = refl
member_root (ScopedMember-F.Word name None) at class = refl
member_root (ScopedMember-F.Word name (Some arguments)) at class = refl

pub of_scoped : {whole : Expr} (at : Place) (class : ClassReference) (member : ScopedMember) → whole ≡ e.Scoped at class member → [] ≡ roots_of whole
of_scoped at class member is =
    sym (ap roots_of is ∙ ap root (one.scoped at class member)
    ∙ ap (λ (f : ScopedMeaning). (f at class).roots) (fold_out-ScopedMember Meaning ScopedMeaning SuffixMeaning Pair Given Joined expression_by scoped_by suffix_by entry_by field_by operand_by member)
    ∙ member_root _ at class)

pub of_chain : {whole : Expr} (at : Place) (first : Expr) (others : List Operand) → whole ≡ e.Chain at first others → 0 < length others → [] ≡ roots_of whole
of_chain at first others is more = chain_rootless (meaning_of first) others more ∙ of_meaning is (one.chain at first others)

pub of_no_chain : {whole given : Expr} {roots : List ℕ} (at : Place) (first : Expr) (others : List Operand) → whole ≡ e.Chain at first others → length others ≤ 0 → given ≡ first
    → roots ≡ roots_of given → roots ≡ roots_of whole
of_no_chain at first others is none same here = here ∙ ap roots_of same ∙ chain_of_one (meaning_of first) others none ∙ of_meaning is (one.chain at first others)

pub of_postfix : {whole given : Expr} {roots behind : List ℕ} {slice : List Suffix} (at : Place) (operand : Expr) (suffixes : List Suffix) → whole ≡ e.Postfix at operand suffixes
    → given ≡ operand → slice ≡ suffixes → roots ≡ roots_of given → behind ≡ kept_behind roots slice → behind ≡ roots_of whole
of_postfix {roots = roots} {slice = slice} at operand suffixes is same part here there =
    there ∙ ap (λ r. kept_behind r slice) (here ∙ ap roots_of same) ∙ ap (λ s. kept_behind (roots_of operand) s) part
    ∙ all_kept suffixes (meaning_of operand) ∙ of_meaning is (one.postfix at operand suffixes)
