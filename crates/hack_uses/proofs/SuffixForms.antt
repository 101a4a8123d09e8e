-- What stands in a suffix of each form, and in a member behind `::`.
use Rattle.std.proofs.Common.{◌≡◌, ◌∙◌, ℕ, Bool, Option, Some, None, List, All, map, sym, ap, subst}
use Rattle.hack_tree.specs.declared.expression.Entry.{Entry}
use Rattle.hack_tree.specs.declared.expression.Expr.{Expr}
use Rattle.hack_tree.specs.declared.expression.Expr.TheOpen.{ScopedMember-F, Suffix-F}
use Rattle.hack_tree.specs.declared.expression.FieldValue.{FieldValue}
use Rattle.hack_tree.specs.declared.expression.Operand.{Operand}
use Rattle.hack_tree.specs.declared.expression.ScopedMember.{ScopedMember, out-ScopedMember}
use Rattle.hack_tree.specs.declared.expression.ScopedMember.TheVariants as member
use Rattle.hack_tree.specs.declared.expression.Suffix.{Suffix, out-Suffix}
use Rattle.hack_tree.specs.declared.expression.Suffix.TheVariants as suffix
use Rattle.hack_tree.specs.declared.expression.Expr.TheViews.{out-roll-ScopedMember, out-roll-Suffix}
use Rattle.hack_types.specs.declared.place.Place.{Place}
use Rattle.hack_rules.specs.Expressions.{meaning_of}
use Rattle.hack_rules.specs.Meanings.{Aim}
use Rattle.hack_rules.specs.Operators.{add, subtract}
use Rattle.hack_rules.specs.Walks.{Walk}
use Rattle.hack_uses.specs.SubParts.{AllInMember, AllInSuffix, all_in_member_by, all_in_suffix_by}
use Rattle.hack_uses.specs.inside.Steps.{increment_step, index_step, method_step, property_step, suffix_step, suffix_step_by}

abbrev Layer : Type 0
Layer = Suffix-F Expr ScopedMember Suffix Entry FieldValue Operand

abbrev MemberLayer : Type 0
MemberLayer = ScopedMember-F Expr ScopedMember Suffix Entry FieldValue Operand

out_index : (index : Option Expr) → ◌≡◌ {A = Layer} (out-Suffix (suffix.Index index)) (Suffix-F.Index index)
out_index index = ap out-Suffix (sym (suffix.rolls-Index index)) ∙ out-roll-Suffix (Suffix-F.Index index)

out_member : (null_safe : Bool) (name : ℕ) (arguments : Option (List Expr)) → ◌≡◌ {A = Layer} (out-Suffix (suffix.Member null_safe name arguments)) (Suffix-F.Member null_safe name arguments)
out_member null_safe name arguments = ap out-Suffix (sym (suffix.rolls-Member null_safe name arguments)) ∙ out-roll-Suffix (Suffix-F.Member null_safe name arguments)

out_increment : ◌≡◌ {A = Layer} (out-Suffix suffix.Increment) Suffix-F.Increment
out_increment = ap out-Suffix (sym suffix.rolls-Increment) ∙ out-roll-Suffix Suffix-F.Increment

out_decrement : ◌≡◌ {A = Layer} (out-Suffix suffix.Decrement) Suffix-F.Decrement
out_decrement = ap out-Suffix (sym suffix.rolls-Decrement) ∙ out-roll-Suffix Suffix-F.Decrement

out_word : (name : ℕ) (arguments : Option (List Expr)) → ◌≡◌ {A = MemberLayer} (out-ScopedMember (member.Word name arguments)) (ScopedMember-F.Word name arguments)
out_word name arguments = ap out-ScopedMember (sym (member.rolls-Word name arguments)) ∙ out-roll-ScopedMember (ScopedMember-F.Word name arguments)

-- ---- what they make of a target

abbrev Step : Type 0
Step = Aim → Walk Aim

abbrev step_at : Place → Layer → Step
step_at at layer = suffix_step_by at layer

pub step_last : (at : Place) → ◌≡◌ {A = Step} (suffix_step at (suffix.Index None)) (index_step at None)
step_last at = ap (step_at at) (out_index None)

pub step_element : (at : Place) (index : Expr) → ◌≡◌ {A = Step} (suffix_step at (suffix.Index (Some index))) (index_step at (Some (meaning_of index)))
step_element at index = ap (step_at at) (out_index (Some index))

pub step_property : (at : Place) (null_safe : Bool) (name : ℕ) → ◌≡◌ {A = Step} (suffix_step at (suffix.Member null_safe name None)) (property_step at null_safe name)
step_property at null_safe name = ap (step_at at) (out_member null_safe name None)

pub step_method : (at : Place) (null_safe : Bool) (name : ℕ) (arguments : List Expr)
    → ◌≡◌ {A = Step} (suffix_step at (suffix.Member null_safe name (Some arguments))) (method_step at null_safe name (map meaning_of arguments))
step_method at null_safe name arguments = ap (step_at at) (out_member null_safe name (Some arguments))

pub step_increment : (at : Place) → ◌≡◌ {A = Step} (suffix_step at suffix.Increment) (increment_step at add)
step_increment at = ap (step_at at) out_increment

pub step_decrement : (at : Place) → ◌≡◌ {A = Step} (suffix_step at suffix.Decrement) (increment_step at subtract)
step_decrement at = ap (step_at at) out_decrement

-- ---- the expressions in them

module _ (P : Expr → Type 0) where
  pub in_index : (index : Expr) → AllInSuffix P (suffix.Index (Some index)) → P index
  in_index index all = subst (λ (layer : Layer). all_in_suffix_by P layer) (out_index (Some index)) all

  pub in_method : (null_safe : Bool) (name : ℕ) (arguments : List Expr) → AllInSuffix P (suffix.Member null_safe name (Some arguments)) → All P arguments
  in_method null_safe name arguments all = subst (λ (layer : Layer). all_in_suffix_by P layer) (out_member null_safe name (Some arguments)) all

  pub in_word : (name : ℕ) (arguments : List Expr) → AllInMember P (member.Word name (Some arguments)) → All P arguments
  in_word name arguments all = subst (λ (layer : MemberLayer). all_in_member_by P layer) (out_word name (Some arguments)) all
