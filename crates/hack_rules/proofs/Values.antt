-- Expressions that are values by themselves go well.
use Rattle.std.proofs.Common.{ℕ, Option, Some, None, List, [], ◌∷◌}
use Rattle.std.specs.List.{AllByRecursion}
use Rattle.hack_tree.specs.declared.expression.CastType.{CastType}
use Rattle.hack_tree.specs.declared.expression.Literal.{Literal}
use Rattle.hack_tree.specs.declared.expression.TestOperator.{TestOperator}
use Rattle.hack_tree.specs.declared.expression.TestOperator.TheVariants as test
use Rattle.hack_tree.specs.declared.expression.TypeTest.{TypeTest}
use Rattle.hack_tree.specs.declared.written_type.Container.{Container}
use Rattle.hack_tree.specs.declared.written_type.Container.TheVariants as container
use Rattle.hack_types.specs.declared.hack_type.HackType.{HackType}
use Rattle.hack_types.specs.declared.place.Place.{Place}
use Rattle.hack_decls.specs.declared.folded.Folded.{Folded}
use Rattle.hack_decls.specs.declared.folded.Folded.TheVariants as folded
use Rattle.hack_rules.specs.Meanings.{Meaning}
use Rattle.hack_rules.specs.Values.{Given, Pair, bracketed, branches_by, cast_row, cast_value, constant_or, constant_row, constant_value, container_row, container_value, dict_row, dict_value, entries_types, fields_types, is_branches, literal_value, shape_row, shape_value, test_branches, test_by, test_row, test_value, tested_row, tests_row, this_or, this_row, this_value, variable_branches, variable_value}
use Rattle.hack_rules.specs.Variables.{Variables}
use Rattle.hack_rules.proofs.Calls.{goes_arguments}
use Rattle.hack_rules.proofs.Meanings.{AllSound, Parted, Sound, goes_no_aim, goes_plain_branches, sound_plain}
use Rattle.hack_rules.proofs.Mentions.{goes_written}
use Rattle.hack_rules.proofs.Refining.{goes_bare_branches, goes_behind_as, goes_tested_branches}
use Rattle.hack_rules.proofs.Steps.{Free, Goes, free_for_each, free_reads, goes_expect, goes_next, goes_pure, goes_refuse, goes_replace, goes_then, goes_unless}
use Rattle.hack_rules.proofs.Targets.{goes_look_up}

-- an entry of a dict
pub record SoundPair (base : Variables) (pair : Pair) : Type 0 where
  pub key : Sound base pair.key
  pub value : Sound base pair.value

-- a field of a shape
pub record SoundGiven (base : Variables) (given : Given) : Type 0 where
  pub value : Sound base given.value

module _ {base : Variables} where
  pub sound_literal : (at : Place) (l : Literal) → Sound base (literal_value at l)
  sound_literal _ _ = record { walk = goes_pure _ tt; left = goes_pure _ tt; branches = goes_plain_branches (goes_pure _ tt); aim = goes_no_aim _ (goes_pure _ tt); left_aim = goes_no_aim _ (goes_pure _ tt) }

  goes_variable_branches : (at : Place) (name : ℕ) → Goes base (Parted base) (variable_branches at name)
  unfolding variable_branches
  goes_variable_branches _ name = goes_next (goes_look_up _ _) (goes_bare_branches name)

  pub sound_variable : (at : Place) (name : ℕ) → Sound base (variable_value at name)
  sound_variable at name = record {
    walk = goes_look_up _ _;
    left = goes_look_up _ _;
    branches = goes_variable_branches _ name;
    aim = goes_pure _ tt;
    left_aim = goes_pure _ tt;
  }

  goes_this_or : (at : Place) (ty : Option HackType) → Goes base Free (this_or at ty)
  goes_this_or _ (Some ty) = goes_pure _ tt
  goes_this_or _ None = goes_refuse _ _

  goes_this_row : (at : Place) → Goes base Free (this_row at)
  unfolding this_row
  goes_this_row _ = goes_then (free_reads _) (λ ty g. goes_this_or _ ty)

  pub sound_this : (at : Place) → Sound base (this_value at)
  sound_this _ = sound_plain (goes_this_row _)

  pub sound_bracketed : (at : Place) {inner : Meaning} → Sound base inner → Sound base (bracketed at inner)
  sound_bracketed _ i = record { walk = i.walk; left = i.left; branches = i.branches; aim = goes_no_aim _ i.walk; left_aim = goes_no_aim _ i.left }

  goes_container_row : (c : Container) (elements : List Meaning) → AllSound base elements → Goes base Free (container_row c elements)
  unfolding container_row
  goes_container_row container.Vec elements all = goes_then (goes_arguments elements all) (λ given g. goes_pure _ tt)
  goes_container_row container.Keyset elements all =
      goes_then (goes_arguments elements all) (λ given g. goes_next (free_for_each (λ a. goes_expect _ _ _) _) (goes_pure _ tt))

  pub sound_container : (at : Place) (c : Container) (elements : List Meaning) → AllSound base elements → Sound base (container_value at c elements)
  sound_container _ c elements all = sound_plain (goes_container_row c elements all)

  goes_entries : (entries : List Pair) → AllByRecursion (SoundPair base) entries → Goes base Free (entries_types entries)
  unfolding entries_types
  goes_entries [] all = goes_pure _ tt
  goes_entries (entry ∷ entries) all = goes_then all.0.key.walk (λ key g. goes_next (goes_expect _ _ _)
      (goes_then all.0.value.walk (λ value h. goes_then (goes_entries entries all.1) (λ others i. goes_pure _ tt))))

  goes_dict_row : (entries : List Pair) → AllByRecursion (SoundPair base) entries → Goes base Free (dict_row entries)
  unfolding dict_row
  goes_dict_row entries all = goes_then (goes_entries entries all) (λ types g. goes_pure _ tt)

  pub sound_dict : (at : Place) (entries : List Pair) → AllByRecursion (SoundPair base) entries → Sound base (dict_value at entries)
  sound_dict _ entries all = sound_plain (goes_dict_row entries all)

  goes_fields : (keys : List ℕ) (fields : List Given) → AllByRecursion (SoundGiven base) fields → Goes base Free (fields_types keys fields)
  unfolding fields_types
  goes_fields keys [] all = goes_pure _ tt
  goes_fields keys (field ∷ fields) all = goes_next (goes_unless _ _ _)
      (goes_then all.0.value.walk (λ ty g. goes_then (goes_fields (field.key ∷ keys) fields all.1) (λ others h. goes_pure _ tt)))

  goes_shape_row : (fields : List Given) → AllByRecursion (SoundGiven base) fields → Goes base Free (shape_row fields)
  unfolding shape_row
  goes_shape_row fields all = goes_then (goes_fields [] fields all) (λ types g. goes_pure _ tt)

  pub sound_shape : (at : Place) (fields : List Given) → AllByRecursion (SoundGiven base) fields → Sound base (shape_value at fields)
  sound_shape _ fields all = sound_plain (goes_shape_row fields all)

  goes_constant_or : (at : Place) (name : ℕ) (declaration : Option Folded) → Goes base Free (constant_or at name declaration)
  goes_constant_or _ _ (Some (folded.Constant ty)) = goes_pure _ tt
  goes_constant_or _ _ _ = goes_refuse _ _

  goes_constant_row : (at : Place) (name : ℕ) → Goes base Free (constant_row at name)
  unfolding constant_row
  goes_constant_row _ _ = goes_then (free_reads _) (λ declaration g. goes_constant_or _ _ declaration)

  pub sound_constant : (at : Place) (name : ℕ) → Sound base (constant_value at name)
  sound_constant _ _ = sound_plain (goes_constant_row _ _)

  -- ---- tests and casts

  goes_test_by : (tested : HackType) (subject : Option ℕ) (operator : TestOperator) → Goes base Free (test_by subject operator tested)
  goes_test_by _ subject test.Is = goes_pure _ tt
  goes_test_by _ subject test.NullAs = goes_pure _ tt
  goes_test_by _ subject test.As = goes_then (goes_behind_as _ subject) (λ behind f. goes_next (goes_replace f) (goes_pure _ tt))

  goes_test_row : (subject : Option ℕ) (t : TypeTest) → Goes base Free (test_row subject t)
  unfolding test_row
  goes_test_row subject t = goes_then (goes_written t.tested) (λ tested g. goes_test_by _ subject t.operator)

  goes_tests_row : (before : HackType) (subject : Option ℕ) (tests : List TypeTest) → Goes base Free (tests_row subject before tests)
  unfolding tests_row
  goes_tests_row _ subject [] = goes_pure _ tt
  goes_tests_row _ subject (t ∷ tests) = goes_then (goes_test_row subject t) (λ ty g. goes_tests_row _ None tests)

  goes_tested_row : (operand : Meaning) (tests : List TypeTest) → Sound base operand → Goes base Free (tested_row operand tests)
  unfolding tested_row
  goes_tested_row operand tests o = goes_then o.walk (λ ty g. goes_tests_row _ operand.subject tests)

  goes_is_branches : (operand : Meaning) (t : TypeTest) → Sound base operand → Goes base (Parted base) (is_branches operand t)
  unfolding is_branches
  goes_is_branches operand t o = goes_next o.walk (goes_then (goes_written t.tested) (λ tested g. goes_tested_branches _ operand.subject))

  goes_branches_by : (operand : Meaning) (t : TypeTest) → Sound base operand → (operator : TestOperator) → Goes base (Parted base) (branches_by operand t operator)
  goes_branches_by operand t o test.Is = goes_is_branches operand t o
  goes_branches_by operand t o _ = goes_plain_branches (goes_tested_row operand (t ∷ []) o)

  goes_test_branches : (operand : Meaning) (tests : List TypeTest) → Sound base operand → Goes base (Parted base) (test_branches operand tests)
  goes_test_branches operand [] o = goes_plain_branches (goes_tested_row operand [] o)
  goes_test_branches operand (t ∷ []) o = goes_branches_by operand t o t.operator
  goes_test_branches operand (t ∷ u ∷ tests) o = goes_plain_branches (goes_tested_row operand (t ∷ u ∷ tests) o)

  pub sound_test : (at : Place) (operand : Meaning) (tests : List TypeTest) → Sound base operand → Sound base (test_value at operand tests)
  sound_test _ operand tests o = record {
    walk = goes_tested_row operand tests o;
    left = goes_tested_row operand tests o;
    branches = goes_test_branches operand tests o;
    aim = goes_no_aim _ (goes_tested_row operand tests o);
    left_aim = goes_no_aim _ (goes_tested_row operand tests o);
  }

  goes_cast_row : (to : CastType) {operand : Meaning} → Sound base operand → Goes base Free (cast_row to operand)
  unfolding cast_row
  goes_cast_row _ o = goes_next o.walk (goes_pure _ tt)

  pub sound_cast : (at : Place) (to : CastType) {operand : Meaning} → Sound base operand → Sound base (cast_value at to operand)
  sound_cast _ _ o = sound_plain (goes_cast_row _ o)
