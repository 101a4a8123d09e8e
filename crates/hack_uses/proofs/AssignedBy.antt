-- Which assignment an operator makes.
use Rattle.std.proofs.Common.{◌≡◌, ◌∙◌, Bool, true, false, Option, Some, None, refl, sym, ap}
use Rattle.std.specs.Option.{option_map}
use Rattle.hack_operators.specs.Seen.{operation_seen}
use Rattle.hack_operators.specs.declared.operation.Operation.{Operation as Given}
use Rattle.hack_rules.specs.Meanings.{Meaning}
use Rattle.hack_rules.specs.Operators.{Operation, assigning, operate}
use Rattle.hack_rules.specs.Targets.{assign_row, assign_with, assigned_by, coalesced, operator_row}
use Rattle.hack_rules.specs.Walks.{Walk}
use Rattle.hack_sub.specs.NamesOf.{nothing_there}
use Rattle.hack_tree.specs.declared.expression.AssignOperator.{AssignOperator}
use Rattle.hack_tree.specs.declared.expression.AssignOperator.TheVariants as assign
use Rattle.hack_types.specs.declared.hack_type.HackType.{HackType}
use Rattle.hack_types.specs.declared.place.Place.{Place}
use Rattle.hack_uses.specs.inside.Steps.{is_coalesce}

module _ (at : Place) (target value : Meaning) where
  abbrev row : AssignOperator → Walk HackType
  row operator = assigned_by at operator target value

  by_operation : (operator : AssignOperator) (operation : Operation) → Some operation ≡ assigning operator
      → row operator ≡ assign_with at false target.aim value.walk (operate at operation)
  by_operation assign.Assign operation is = absurd (nothing_there operation is)
  by_operation assign.Coalesce operation is = absurd (nothing_there operation is)
  by_operation assign.Add operation is = ap (λ (o : Option Operation). operator_row at o target value) (sym is)
  by_operation assign.Subtract operation is = ap (λ (o : Option Operation). operator_row at o target value) (sym is)
  by_operation assign.Multiply operation is = ap (λ (o : Option Operation). operator_row at o target value) (sym is)
  by_operation assign.Divide operation is = ap (λ (o : Option Operation). operator_row at o target value) (sym is)
  by_operation assign.Remainder operation is = ap (λ (o : Option Operation). operator_row at o target value) (sym is)
  by_operation assign.Concat operation is = ap (λ (o : Option Operation). operator_row at o target value) (sym is)
  by_operation assign.BitAnd operation is = ap (λ (o : Option Operation). operator_row at o target value) (sym is)
  by_operation assign.BitOr operation is = ap (λ (o : Option Operation). operator_row at o target value) (sym is)
  by_operation assign.BitXor operation is = ap (λ (o : Option Operation). operator_row at o target value) (sym is)
  by_operation assign.Power operation is = ap (λ (o : Option Operation). operator_row at o target value) (sym is)

  -- `op=`
  pub with_operation : (operator : AssignOperator) (found : Option Given) (operation : Given) → found ≡ Some operation → option_map operation_seen found ≡ assigning operator
      → row operator ≡ assign_with at false target.aim value.walk (operate at (operation_seen operation))
  with_operation operator found operation some is = by_operation operator (operation_seen operation) (ap (option_map operation_seen) (sym some) ∙ is)

  -- `??=`
  pub with_coalesce : (operator : AssignOperator) → is_coalesce operator ≡ true → row operator ≡ assign_with at true target.left_aim value.walk coalesced
  with_coalesce assign.Coalesce is = refl
  with_coalesce assign.Assign is = absurd cc
  with_coalesce assign.Add is = absurd cc
  with_coalesce assign.Subtract is = absurd cc
  with_coalesce assign.Multiply is = absurd cc
  with_coalesce assign.Divide is = absurd cc
  with_coalesce assign.Remainder is = absurd cc
  with_coalesce assign.Concat is = absurd cc
  with_coalesce assign.BitAnd is = absurd cc
  with_coalesce assign.BitOr is = absurd cc
  with_coalesce assign.BitXor is = absurd cc
  with_coalesce assign.Power is = absurd cc

  alone : (operator : AssignOperator) → None ≡ assigning operator → is_coalesce operator ≡ false → row operator ≡ assign_row target value
  alone assign.Assign none is = refl
  alone assign.Coalesce none is = absurd cc
  alone assign.Add none is = ap (λ (o : Option Operation). operator_row at o target value) (sym none)
  alone assign.Subtract none is = ap (λ (o : Option Operation). operator_row at o target value) (sym none)
  alone assign.Multiply none is = ap (λ (o : Option Operation). operator_row at o target value) (sym none)
  alone assign.Divide none is = ap (λ (o : Option Operation). operator_row at o target value) (sym none)
  alone assign.Remainder none is = ap (λ (o : Option Operation). operator_row at o target value) (sym none)
  alone assign.Concat none is = ap (λ (o : Option Operation). operator_row at o target value) (sym none)
  alone assign.BitAnd none is = ap (λ (o : Option Operation). operator_row at o target value) (sym none)
  alone assign.BitOr none is = ap (λ (o : Option Operation). operator_row at o target value) (sym none)
  alone assign.BitXor none is = ap (λ (o : Option Operation). operator_row at o target value) (sym none)
  alone assign.Power none is = ap (λ (o : Option Operation). operator_row at o target value) (sym none)

  -- `=`
  pub with_neither : (operator : AssignOperator) (found : Option Given) → found ≡ None → option_map operation_seen found ≡ assigning operator → is_coalesce operator ≡ false
      → row operator ≡ assign_row target value
  with_neither operator found none is plain = alone operator (ap (option_map operation_seen) (sym none) ∙ is) plain
