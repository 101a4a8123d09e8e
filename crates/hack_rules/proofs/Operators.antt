-- Operators go well.
use Rattle.std.proofs.Common.{◌||◌, Option, Some, None}
use Rattle.hack_types.specs.declared.hack_type.HackType.{HackType}
use Rattle.hack_types.specs.declared.place.Place.{Place}
use Rattle.hack_rules.specs.Operators.{Operation, Sign, given_or, is_error, operate, operate_alone, result_of, sign_of, signed_or}
use Rattle.hack_rules.specs.Variables.{Variables}
use Rattle.hack_rules.proofs.Steps.{Free, Goes, free_reads, goes_either, goes_pure, goes_refuse, goes_then}

module _ {base : Variables} where
  goes_given_or : (at : Place) (operation : Operation) (left right : HackType) (ty : Option HackType) → Goes base Free (given_or at operation left right ty)
  goes_given_or _ _ _ _ (Some ty) = goes_pure _ tt
  goes_given_or _ _ _ _ None = goes_refuse _ _

  pub goes_operate : (at : Place) (operation : Operation) (left right : HackType) → Goes base Free (operate at operation left right)
  unfolding operate
  goes_operate _ operation _ _ = goes_then (free_reads _) (λ first g. goes_then (free_reads _) (λ second h.
      goes_either (is_error first || is_error second) (goes_pure _ tt) (goes_given_or _ _ _ _ (result_of operation first second))))

  goes_signed_or : (at : Place) (sign : Sign) (operand : HackType) (ty : Option HackType) → Goes base Free (signed_or at sign operand ty)
  goes_signed_or _ _ _ (Some ty) = goes_pure _ tt
  goes_signed_or _ _ _ None = goes_refuse _ _

  pub goes_operate_alone : (at : Place) (sign : Sign) (operand : HackType) → Goes base Free (operate_alone at sign operand)
  unfolding operate_alone
  goes_operate_alone _ sign _ = goes_then (free_reads _) (λ class g. goes_either (is_error class) (goes_pure _ tt) (goes_signed_or _ _ _ (sign_of sign class)))
