-- Names of classes and words before `::` go well.
use Rattle.std.proofs.Common.{ℕ, Bool, true, false, Option, Some, None}
use Rattle.hack_tree.specs.declared.expression.ClassReference.{ClassReference}
use Rattle.hack_tree.specs.declared.expression.ClassReference.TheVariants as reference
use Rattle.hack_types.specs.declared.hack_type.HackType.{HackType}
use Rattle.hack_types.specs.declared.place.Place.{Place}
use Rattle.hack_decls.specs.declared.folded.Folded.{Folded}
use Rattle.hack_decls.specs.declared.folded.Folded.TheVariants as folded
use Rattle.hack_sub.specs.Knowing.{is_trait}
use Rattle.hack_rules.specs.Classes.{allowed_by, mentioned, mentioned_by, mentioned_trait, referred}
use Rattle.hack_rules.specs.Variables.{Variables}
use Rattle.hack_rules.proofs.Steps.{Free, Goes, free_reads, goes_next, goes_pure, goes_report, goes_then}

module _ {base : Variables} where
  goes_allowed_by : (at : Place) (word : ClassReference) (ty : Option HackType) → Goes base Free (allowed_by at word ty)
  unfolding allowed_by
  goes_allowed_by _ _ (Some ty) = goes_pure _ tt
  goes_allowed_by _ _ None = goes_next (goes_report _ _) (goes_pure _ tt)

  goes_trait : (at : Place) (name : ℕ) (declaration : Folded) (trait : Bool) → Goes base Free (mentioned_trait at name declaration trait)
  goes_trait _ _ _ false = goes_pure _ tt
  goes_trait _ _ _ true = goes_next (goes_report _ _) (goes_pure _ tt)

  goes_mentioned_by : (at : Place) (name : ℕ) (declaration : Option Folded) → Goes base Free (mentioned_by at name declaration)
  goes_mentioned_by _ _ None = goes_next (goes_report _ _) (goes_pure _ tt)
  goes_mentioned_by _ _ (Some (folded.ClassLike class)) = goes_trait _ _ _ (is_trait class.sort)
  goes_mentioned_by _ _ (Some declaration) = goes_pure _ tt

  pub goes_mentioned : (at : Place) (name : ℕ) → Goes base Free (mentioned at name)
  unfolding mentioned
  goes_mentioned _ _ = goes_then (free_reads _) (λ declaration g. goes_mentioned_by _ _ declaration)

  pub goes_referred : (at : Place) (class : ClassReference) → Goes base Free (referred at class)
  unfolding referred
  goes_referred _ (reference.Named name) = goes_then (goes_mentioned _ _) (λ declaration g. goes_pure _ tt)
  goes_referred _ word = goes_then (free_reads _) (λ ty g. goes_allowed_by _ _ ty)
