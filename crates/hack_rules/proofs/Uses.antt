-- Calls of functions, members behind `::` and `->`, and indices go well.
use Rattle.std.proofs.Common.{ℕ, Bool, true, false, Option, Some, None, List}
use Rattle.hack_tree.specs.declared.expression.ClassReference.{ClassReference}
use Rattle.hack_types.specs.declared.hack_type.HackType.{HackType}
use Rattle.hack_types.specs.declared.place.Place.{Place}
use Rattle.hack_decls.specs.declared.folded.Folded.{Folded}
use Rattle.hack_decls.specs.declared.folded.Folded.TheVariants as folded
use Rattle.hack_rules.specs.Meanings.{Meaning}
use Rattle.hack_rules.specs.Uses.{call_row, call_value, class_constant, constant_walk, element_row, element_target, function_or, index_row, index_value, member_value, method_row, property_aim, property_row, property_value, static_call, static_property, through, word_value}
use Rattle.hack_rules.specs.Variables.{Variables}
use Rattle.hack_rules.specs.Walks.{Walk}
use Rattle.hack_rules.specs.WrittenTypes.{Argument}
use Rattle.hack_rules.proofs.Calls.{goes_arguments, goes_call_with}
use Rattle.hack_rules.proofs.Classes.{goes_referred}
use Rattle.hack_rules.proofs.Indices.{goes_element}
use Rattle.hack_rules.proofs.Meanings.{AllSound, MayAllSound, MaySound, Sound, goes_plain_branches, sound_plain}
use Rattle.hack_rules.proofs.Members.{gives_constant, gives_method, gives_property, goes_member_of}
use Rattle.hack_rules.proofs.Steps.{Free, Goes, free_reads, goes_pure, goes_refuse, goes_then}
use Rattle.hack_rules.proofs.Targets.{goes_read}

module _ {base : Variables} where
  goes_function_or : (at : Place) (name : ℕ) (given : List Argument) (declaration : Option Folded) → Goes base Free (function_or at name given declaration)
  goes_function_or _ _ _ (Some (folded.Function signature)) = goes_call_with _ _ _
  goes_function_or _ _ _ _ = goes_refuse _ _

  goes_call_row : (at : Place) (name : ℕ) (arguments : List Meaning) → AllSound base arguments → Goes base Free (call_row at name arguments)
  unfolding call_row
  goes_call_row _ _ arguments all = goes_then (goes_arguments arguments all) (λ given g. goes_then (free_reads _) (λ declaration h. goes_function_or _ _ _ declaration))

  pub sound_call : (at : Place) (name : ℕ) (arguments : List Meaning) → AllSound base arguments → Sound base (call_value at name arguments)
  sound_call _ _ arguments all = sound_plain (goes_call_row _ _ arguments all)

  -- ---- behind `::`

  goes_through : {go_on : HackType → Walk HackType} → ((ty : HackType) → Goes base Free (go_on ty)) → (ty : Option HackType) → Goes base Free (through go_on ty)
  goes_through p None = goes_pure _ tt
  goes_through p (Some ty) = p ty

  goes_static_property : (at : Place) (name : ℕ) (class : ClassReference) → Goes base Free (static_property at class name)
  unfolding static_property
  goes_static_property _ _ class = goes_then (goes_referred _ class) (λ ty g. goes_through (λ t. goes_member_of _ (gives_property _ _ _) t) ty)

  goes_constant_walk : (at : Place) (class : ClassReference) (name : ℕ) (ty : HackType) → Goes base Free (constant_walk at class name ty)
  unfolding constant_walk
  goes_constant_walk _ _ _ ty = goes_then (free_reads _) (λ shown g. goes_member_of _ (gives_constant _ _) ty)

  goes_class_constant : (at : Place) (name : ℕ) (class : ClassReference) → Goes base Free (class_constant at class name)
  unfolding class_constant
  goes_class_constant _ _ class = goes_then (goes_referred _ class) (λ ty g. goes_through (λ t. goes_constant_walk _ _ _ t) ty)

  goes_static_call : (at : Place) (name : ℕ) (class : ClassReference) (arguments : List Meaning) → AllSound base arguments → Goes base Free (static_call at class name arguments)
  unfolding static_call
  goes_static_call _ _ class arguments all = goes_then (goes_referred _ class) (λ ty g. goes_then (goes_arguments arguments all) (λ given h.
      goes_then (free_reads _) (λ use_ i. goes_through (λ t. goes_member_of _ (gives_method _ _ _ _ _) t) ty)))

  goes_property_aim : {walk : Walk HackType} → Goes base Free walk → Goes base Free (property_aim walk)
  unfolding property_aim
  goes_property_aim p = goes_then p (λ ty g. goes_pure _ tt)

  sound_property : (at : Place) {walk : Walk HackType} {assigned : List ℕ} → Goes base Free walk → Sound base (property_value at walk assigned)
  sound_property _ p = record { walk = p; left = p; branches = goes_plain_branches p; aim = goes_property_aim p; left_aim = goes_property_aim p }

  pub sound_static_property : (at : Place) (name : ℕ) (class : ClassReference) {assigned : List ℕ} → Sound base (property_value at (static_property at class name) assigned)
  sound_static_property _ _ class = sound_property _ (goes_static_property _ _ class)

  pub sound_word : (at : Place) (name : ℕ) (class : ClassReference) (arguments : Option (List Meaning)) → MayAllSound base arguments → Sound base (word_value at class name arguments)
  sound_word _ _ class None all = sound_plain (goes_class_constant _ _ class)
  sound_word _ _ class (Some arguments) all = sound_plain (goes_static_call _ _ class arguments all)

  -- ---- behind an operand

  goes_property_row : {under : Meaning} (null_safe : Bool) (name : ℕ) → Sound base under → Goes base Free (property_row under null_safe name)
  unfolding property_row
  goes_property_row _ _ u = goes_then u.walk (λ ty g. goes_member_of _ (gives_property _ _ _) ty)

  goes_method_row : {under : Meaning} (null_safe : Bool) (name : ℕ) (arguments : List Meaning) → Sound base under → AllSound base arguments
      → Goes base Free (method_row under null_safe name arguments)
  unfolding method_row
  goes_method_row _ _ arguments u all = goes_then u.walk (λ ty g. goes_then (goes_arguments arguments all) (λ given h. goes_member_of _ (gives_method _ _ _ _ _) ty))

  pub sound_member : {under : Meaning} (null_safe : Bool) (name : ℕ) (arguments : Option (List Meaning)) → Sound base under → MayAllSound base arguments
      → Sound base (member_value under null_safe name arguments)
  sound_member _ _ None u all = sound_property _ (goes_property_row _ _ u)
  sound_member _ _ (Some arguments) u all = sound_plain (goes_method_row _ _ arguments u all)

  goes_index_row : (index : Option Meaning) → MaySound base index → Goes base Free (index_row index)
  unfolding index_row
  goes_index_row None i = goes_pure _ tt
  goes_index_row (Some index) i = goes_then i.walk (λ ty g. goes_pure _ tt)

  goes_element_row : (left : Bool) {under : Meaning} (index : Option Meaning) → Sound base under → MaySound base index → Goes base Free (element_row left under index)
  unfolding element_row
  goes_element_row left index u i = goes_then u.walk (λ ty g. goes_then (goes_index_row index i) (λ typed h. goes_element _ _ left typed))

  goes_element_target : {under : Meaning} (index : Option Meaning) → Sound base under → MaySound base index → Goes base Free (element_target under index)
  unfolding element_target
  goes_element_target index u i = goes_then u.aim (λ aim g. goes_then (goes_read false aim) (λ ty h. goes_then (goes_index_row index i) (λ typed j. goes_pure _ tt)))

  pub sound_index : {under : Meaning} (index : Option Meaning) → Sound base under → MaySound base index → Sound base (index_value under index)
  sound_index index u i = record {
    walk = goes_element_row false index u i;
    left = goes_element_row true index u i;
    branches = goes_plain_branches (goes_element_row false index u i);
    aim = goes_element_target index u i;
    left_aim = goes_element_target index u i;
  }
