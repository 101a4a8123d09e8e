-- Targets and assignments go well.
use Rattle.std.proofs.Common.{ℕ, Bool, true, false, Option, Some, None}
use Rattle.hack_tree.specs.declared.expression.AssignOperator.{AssignOperator}
use Rattle.hack_tree.specs.declared.expression.AssignOperator.TheVariants as assign
use Rattle.hack_types.specs.declared.hack_type.HackType.{HackType}
use Rattle.hack_types.specs.declared.place.Place.{Place}
use Rattle.hack_rules.specs.Meanings.{Aim, Meaning, element as element_aim, other, property, variable}
use Rattle.hack_rules.specs.Operators.{Operation, assigning}
use Rattle.hack_rules.specs.Targets.{assign_row, assign_with, assigned_by, assignment, coalesced, increment, increment_row, look_up, operator_row, read, store, variable_or}
use Rattle.hack_rules.specs.Variables.{Variables}
use Rattle.hack_rules.specs.Walks.{Walk}
use Rattle.hack_rules.proofs.Indices.{goes_element, goes_with_element}
use Rattle.hack_rules.proofs.Meanings.{Sound, sound_plain}
use Rattle.hack_rules.proofs.Operators.{goes_operate}
use Rattle.hack_rules.proofs.Steps.{Free, Goes, free_reads, goes_assign, goes_expect, goes_next, goes_pure, goes_refuse, goes_report, goes_then, goes_variable_here}

module _ {base : Variables} where
  goes_variable_or : (at : Place) (name : ℕ) (ty : Option HackType) → Goes base Free (variable_or at name ty)
  goes_variable_or _ _ (Some ty) = goes_pure _ tt
  goes_variable_or _ _ None = goes_refuse _ _

  pub goes_look_up : (at : Place) (name : ℕ) → Goes base Free (look_up at name)
  unfolding look_up
  goes_look_up _ _ = goes_then (goes_variable_here _) (λ found g. goes_variable_or _ _ found)

  pub goes_read : (left : Bool) (aim : Aim) → Goes base Free (read left aim)
  unfolding read
  goes_read left (variable at name) = goes_look_up _ _
  goes_read left (property ty) = goes_pure _ tt
  goes_read left (element_aim at under ty index) = goes_element _ _ left index
  goes_read left (other at ty) = goes_pure _ tt

  goes_store : (value_at : Place) (new : HackType) (aim : Aim) → Goes base Free (store value_at aim new)
  unfolding store
  goes_store _ _ (variable at name) = goes_assign _ _
  goes_store _ _ (property ty) = goes_expect _ _ _
  goes_store _ _ (element_aim at under ty index) = goes_then (goes_with_element _ _ _ _ index) (λ made g. goes_store _ _ under)
  goes_store _ _ (other at ty) = goes_report _ _

  goes_assign_row : {target value : Meaning} → Sound base target → Sound base value → Goes base Free (assign_row target value)
  unfolding assign_row
  goes_assign_row t v = goes_then t.aim (λ aim g. goes_then v.walk (λ ty h. goes_next (goes_store _ _ aim) (goes_pure _ tt)))

  goes_assign_with : (at : Place) (left : Bool) {target : Walk Aim} {value : Walk HackType} {combine : HackType → HackType → Walk HackType}
      → Goes base Free target → Goes base Free value → ((a b : HackType) → Goes base Free (combine a b)) → Goes base Free (assign_with at left target value combine)
  unfolding assign_with
  goes_assign_with _ left t v c = goes_then t (λ aim g. goes_then (goes_read left aim) (λ before h. goes_then v (λ other_ty i.
      goes_then (c before other_ty) (λ ty j. goes_next (goes_store _ _ aim) (goes_pure _ tt)))))

  pub goes_coalesced : (left right : HackType) → Goes base Free (coalesced left right)
  unfolding coalesced
  goes_coalesced _ _ = free_reads _

  goes_increment_row : (at : Place) (operation : Operation) {target : Meaning} → Sound base target → Goes base Free (increment_row at operation target)
  unfolding increment_row
  goes_increment_row _ operation t = goes_assign_with _ false t.aim (goes_pure _ tt) (λ a b. goes_operate _ operation _ _)

  pub sound_increment : (at : Place) (operation : Operation) {target : Meaning} → Sound base target → Sound base (increment at operation target)
  sound_increment _ operation t = sound_plain (goes_increment_row _ operation t)

  goes_operator_row : (at : Place) (operation : Option Operation) {target value : Meaning} → Sound base target → Sound base value
      → Goes base Free (operator_row at operation target value)
  goes_operator_row _ None t v = goes_assign_row t v
  goes_operator_row _ (Some operation) t v = goes_assign_with _ false t.aim v.walk (λ a b. goes_operate _ operation _ _)

  goes_assigned_by : (at : Place) (operator : AssignOperator) {target value : Meaning} → Sound base target → Sound base value
      → Goes base Free (assigned_by at operator target value)
  goes_assigned_by _ assign.Assign t v = goes_assign_row t v
  goes_assigned_by _ assign.Coalesce t v = goes_assign_with _ true t.left_aim v.walk (λ a b. goes_coalesced _ _)
  goes_assigned_by _ operator t v = goes_operator_row _ (assigning operator) t v

  pub sound_assignment : (at : Place) (operator : AssignOperator) {target value : Meaning} → Sound base target → Sound base value
      → Sound base (assignment at operator target value)
  sound_assignment _ operator t v = sound_plain (goes_assigned_by _ operator t v)
