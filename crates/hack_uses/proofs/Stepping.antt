-- What a suffix makes of an expression is what it makes of the expression's target.
use Rattle.std.proofs.Common.{◌≡◌, ◌∙◌, ℕ, Bool, false, Option, Some, None, List, [], ◌∷◌, ◌++◌, map, refl, sym, ap, subst}
use Rattle.hack_tree.specs.declared.expression.Entry.{Entry}
use Rattle.hack_tree.specs.declared.expression.Expr.{Expr}
use Rattle.hack_tree.specs.declared.expression.Expr.TheFolds.{fold_out-Suffix, map-Suffix}
use Rattle.hack_tree.specs.declared.expression.Expr.TheOpen.{Suffix-F}
use Rattle.hack_tree.specs.declared.expression.FieldValue.{FieldValue}
use Rattle.hack_tree.specs.declared.expression.Operand.{Operand}
use Rattle.hack_tree.specs.declared.expression.ScopedMember.{ScopedMember}
use Rattle.hack_tree.specs.declared.expression.Suffix.{Suffix, out-Suffix}
use Rattle.hack_types.specs.declared.hack_type.HackType.{HackType}
use Rattle.hack_types.specs.declared.place.Place.{Place}
use Rattle.hack_decls.specs.DeclState.{Map}
use Rattle.hack_parts.specs.Forms.{given_of, joined_of, member_of as scoped_of, pair_of, suffix_of}
use Rattle.hack_parts.specs.declared.reading.Reading.{Reading}
use Rattle.hack_parts.specs.declared.reading.Reading.TheVariants as reading
use Rattle.hack_rules.specs.Chains.{Joined}
use Rattle.hack_rules.specs.Expressions.{ScopedMeaning, SuffixMeaning, entry_by, expression_by, field_by, meaning_of, operand_by, scoped_by, suffix_by}
use Rattle.hack_rules.specs.Meanings.{Aim, Meaning, element as element_aim, no_aim, other, property}
use Rattle.hack_rules.specs.Members.{instance_alone, member_of, property_of}
use Rattle.hack_rules.specs.Operators.{Operation, add, operate, subtract}
use Rattle.hack_rules.specs.Targets.{assign_with, increment_row, read}
use Rattle.hack_rules.specs.Uses.{element_target, index_row, method_row, property_aim, property_row}
use Rattle.hack_rules.specs.Values.{Given, Pair}
use Rattle.hack_rules.specs.Walks.{Setting, State, Walk, ◌>>=◌, ◌>>◌, after, pure}
use Rattle.hack_uses.specs.Aims.{aim_by, behind}
use Rattle.hack_uses.specs.inside.Steps.{increased, increment_step, index_step, method_called, method_step, property_step, stored, suffix_step, suffix_step_by, typed_index}
use Rattle.hack_uses.proofs.Readable.{Readable}

abbrev Layer : Type 0
Layer = Suffix-F Expr ScopedMember Suffix Entry FieldValue Operand

abbrev meant : Layer → Suffix-F Meaning ScopedMeaning SuffixMeaning Pair Given Joined
meant = map-Suffix Expr ScopedMember Suffix Entry FieldValue Operand Meaning ScopedMeaning SuffixMeaning Pair Given Joined
    meaning_of scoped_of suffix_of pair_of given_of joined_of

module _ (base : Meaning) (from : Readable base) (setting : Setting) (m : Map) (here : State) where
  of_element : (index : Option Meaning) → element_target base index setting m here ≡ (base.aim >>= index_step base.at index) setting m here
  unfolding element_target index_step
  of_element index = refl

  of_property : (null_safe : Bool) (name : ℕ)
      → property_aim (property_row base null_safe name) setting m here ≡ (base.aim >>= property_step base.at null_safe name) setting m here
  unfolding property_aim property_row property_step ◌>>=◌
  of_property null_safe name =
      ap (λ (end : HackType × State). after end (λ ty. member_of base.at (property_of instance_alone null_safe name) ty >>= (λ found. pure (property found))) setting m)
      (from.walk setting m here)

  of_method : (null_safe : Bool) (name : ℕ) (arguments : List Meaning)
      → no_aim base.at (method_row base null_safe name arguments) setting m here ≡ (base.aim >>= method_step base.at null_safe name arguments) setting m here
  unfolding no_aim method_row method_step method_called ◌>>=◌
  of_method null_safe name arguments =
      ap (λ (end : HackType × State). after end (λ ty. method_called base.at null_safe name arguments ty >>= (λ found. pure (other base.at found))) setting m)
      (from.walk setting m here)

  of_increment : (operation : Operation)
      → no_aim base.at (increment_row base.at operation base) setting m here ≡ (base.aim >>= increment_step base.at operation) setting m here
  unfolding no_aim increment_row assign_with increment_step increased stored ◌>>=◌ ◌>>◌ pure
  of_increment operation = refl

  aim_of_layer : (layer : Layer) → (suffix_by (meant layer) base).aim setting m here ≡ (base.aim >>= suffix_step_by base.at layer) setting m here
  unfolding suffix_by
  aim_of_layer (Suffix-F.Index None) = of_element None
  aim_of_layer (Suffix-F.Index (Some index)) = of_element (Some (meaning_of index))
  aim_of_layer (Suffix-F.Member null_safe name None) = of_property null_safe name
  aim_of_layer (Suffix-F.Member null_safe name (Some arguments)) = of_method null_safe name (map meaning_of arguments)
  aim_of_layer Suffix-F.Increment = of_increment add
  aim_of_layer Suffix-F.Decrement = of_increment subtract

folded : (suffix : Suffix) → suffix_of suffix ≡ suffix_by (meant (out-Suffix suffix))
folded suffix = fold_out-Suffix Meaning ScopedMeaning SuffixMeaning Pair Given Joined expression_by scoped_by suffix_by entry_by field_by operand_by suffix

-- what stands behind a target makes of it the target of the whole
pub aim_of_suffix : (suffix : Suffix) (base : Meaning) → Readable base → (setting : Setting) (m : Map) (here : State)
    → (suffix_of suffix base).aim setting m here ≡ (base.aim >>= suffix_step base.at suffix) setting m here
aim_of_suffix suffix base from setting m here =
    ap (λ (f : SuffixMeaning). (f base).aim setting m here) (folded suffix) ∙ aim_of_layer base from setting m here (out-Suffix suffix)

-- an index, taken apart
module _ (at : Place) (aim : Aim) (setting : Setting) (m : Map) (here : State) where
  pub last_step : index_step at None aim setting m here ≡ (read false aim >>= (λ ty. pure (element_aim at aim ty None))) setting m here
  unfolding index_step index_row ◌>>=◌ pure
  last_step = refl

  pub element_step : (index : Meaning) → index_step at (Some index) aim setting m here
      ≡ (read false aim >>= (λ ty. typed_index index >>= (λ typed. pure (element_aim at aim ty (Some typed))))) setting m here
  unfolding index_step index_row typed_index ◌>>=◌ pure
  element_step index = refl

-- `++` and `--` of a whole expression
pub increment_as : (at : Place) (operation : Operation) (to : Meaning) (setting : Setting) (m : Map) (here : State)
    → increment_row at operation to setting m here ≡ (to.aim >>= (λ aim. increased at operation aim)) setting m here
unfolding increment_row assign_with increased stored ◌>>=◌ ◌>>◌ pure
increment_as at operation to setting m here = refl

-- which is the same in either reading
same_aim_by : (layer : Suffix-F Meaning ScopedMeaning SuffixMeaning Pair Given Joined) (base : Meaning) → (suffix_by layer base).left_aim ≡ (suffix_by layer base).aim
unfolding suffix_by
same_aim_by (Suffix-F.Index index) base = refl
same_aim_by (Suffix-F.Member null_safe name None) base = refl
same_aim_by (Suffix-F.Member null_safe name (Some arguments)) base = refl
same_aim_by Suffix-F.Increment base = refl
same_aim_by Suffix-F.Decrement base = refl

same_aim : (suffix : Suffix) (base : Meaning) → (suffix_of suffix base).left_aim ≡ (suffix_of suffix base).aim
same_aim suffix base = subst (λ (f : SuffixMeaning). (f base).left_aim ≡ (f base).aim) (sym (folded suffix)) (same_aim_by _ base)

-- behind at least one suffix
pub one_aim : (base : Meaning) (suffix : Suffix) (suffixes : List Suffix) → (behind base (suffix ∷ suffixes)).left_aim ≡ (behind base (suffix ∷ suffixes)).aim
one_aim base suffix [] = same_aim suffix base
one_aim base suffix (next ∷ suffixes) = one_aim (suffix_of suffix base) next suffixes

-- the place stays
place_by : (layer : Suffix-F Meaning ScopedMeaning SuffixMeaning Pair Given Joined) (base : Meaning) → (suffix_by layer base).at ≡ base.at
unfolding suffix_by
place_by (Suffix-F.Index index) base = refl
place_by (Suffix-F.Member null_safe name None) base = refl
place_by (Suffix-F.Member null_safe name (Some arguments)) base = refl
place_by Suffix-F.Increment base = refl
place_by Suffix-F.Decrement base = refl

one_place : (suffix : Suffix) (base : Meaning) → (suffix_of suffix base).at ≡ base.at
one_place suffix base = subst (λ (f : SuffixMeaning). (f base).at ≡ base.at) (sym (folded suffix)) (place_by _ base)

pub place_behind : (base : Meaning) (suffixes : List Suffix) → (behind base suffixes).at ≡ base.at
place_behind base [] = refl
place_behind base (suffix ∷ suffixes) = place_behind (suffix_of suffix base) suffixes ∙ one_place suffix base

pub behind_more : (base : Meaning) (suffixes : List Suffix) (suffix : Suffix) → behind base (suffixes ++ suffix ∷ []) ≡ suffix_of suffix (behind base suffixes)
behind_more base [] suffix = refl
behind_more base (next ∷ suffixes) suffix = behind_more (suffix_of next base) suffixes suffix
