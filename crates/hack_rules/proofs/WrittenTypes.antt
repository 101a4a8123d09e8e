-- Written types: all their walks go well.
use Rattle.std.proofs.Common.{ℕ, ◌==◌, not, Bool, Option, Some, None, List, [], ◌∷◌, length}
use Rattle.std.specs.Bool.{nat_le}
use Rattle.std.specs.List.{AllByRecursion}
use Rattle.hack_tree.specs.declared.written_type.Container.{Container}
use Rattle.hack_tree.specs.declared.written_type.Container.TheVariants as container
use Rattle.hack_types.specs.Substituted.{most_nodes}
use Rattle.hack_types.specs.TypeNodes.{nodes}
use Rattle.hack_types.specs.declared.hack_type.HackType.{HackType}
use Rattle.hack_types.specs.declared.place.Place.{Place}
use Rattle.hack_types.specs.declared.signature.TypeParam.{TypeParam}
use Rattle.hack_shallow.specs.Scope.{Scope as Names}
use Rattle.hack_decls.specs.declared.folded.Folded.{Folded}
use Rattle.hack_rules.specs.Variables.{Variables}
use Rattle.hack_rules.specs.Walks.{Walk}
use Rattle.hack_rules.specs.WrittenTypes.{Argument, ClassMention, FieldMention, Mention, container_checks, count_arguments, declared_by, dict_checks, expect_arguments, expect_key, expect_within, fields_checks, is_parameter, named_checks, this_checks, whole}
use Rattle.hack_rules.proofs.Steps.{Free, Goes, free_pairs, free_reads, goes_either, goes_for_each, goes_next, goes_pure, goes_report, goes_then, goes_unless}

-- a mention, with bounds or without
pub record GoodMention (base : Variables) (m : Mention) : Type 0 where
  pub checks : (bounds : Bool) → Goes base Free (m.checks bounds)

-- besides, with traits or without
pub record GoodClass (base : Variables) (m : ClassMention) : Type 0 where
  pub checks : (traits bounds : Bool) → Goes base Free (m.checks traits bounds)

-- a field
pub record GoodField (base : Variables) (m : FieldMention) : Type 0 where
  pub value : GoodMention base m.value

module _ {base : Variables} where
  pub goes_expect_within : (put : HackType → HackType) (at : Place) (param : TypeParam) (ty : HackType) → Goes base Free (expect_within put at param ty)
  unfolding expect_within
  goes_expect_within _ _ _ _ = goes_then (free_reads _) (λ fits g. goes_unless _ _ _)

  pub goes_expect_arguments : (params : List TypeParam) (arguments : List Argument) → Goes base Free (expect_arguments params arguments)
  unfolding expect_arguments
  goes_expect_arguments _ _ = free_pairs (λ param argument. goes_expect_within _ _ _ _) _ _

  pub goes_expect_key : (at : Place) (ty : HackType) → Goes base Free (expect_key at ty)
  unfolding expect_key
  goes_expect_key _ _ = goes_then (free_reads _) (λ fits g. goes_unless _ _ _)

  goes_count : (at : Place) (name : ℕ) (bounds : Bool) (params : List TypeParam) (arguments : List Mention)
      → Goes base Free (count_arguments bounds at name params arguments)
  unfolding count_arguments
  goes_count _ _ bounds params arguments =
      goes_either (not (length params == length arguments)) (goes_report _ _) (goes_either bounds (goes_expect_arguments _ _) (goes_pure _ tt))

  goes_declared_by : (traits : Bool) (at : Place) (name : ℕ) (bounds : Bool) (arguments : List Mention) (declaration : Option Folded)
      → Goes base Free (declared_by traits bounds at name arguments declaration)
  unfolding declared_by
  goes_declared_by _ _ _ bounds arguments None = goes_report _ _
  goes_declared_by _ _ _ bounds arguments (Some declaration) = goes_next (goes_unless _ _ _) (goes_count _ _ bounds _ arguments)

  goes_named : (at : Place) (names : Names) (name : ℕ) (arguments : List Mention) → AllByRecursion (GoodMention base) arguments → (traits bounds : Bool)
      → Goes base Free (named_checks names at name arguments traits bounds)
  unfolding named_checks
  goes_named _ names name arguments all traits bounds = goes_next (goes_for_each (GoodMention base) (λ m good. good.checks bounds) arguments all)
      (goes_then (free_reads _) (λ declaration g. goes_either (is_parameter names name) (goes_pure _ tt) (goes_declared_by _ _ _ bounds arguments declaration)))

  pub good_class : (names : Names) (at : Place) (ty : HackType) (name : ℕ) (arguments : List Mention) → AllByRecursion (GoodMention base) arguments
      → GoodClass base (record { at = at; ty = ty; checks = named_checks names at name arguments })
  good_class names at ty name arguments all = record { checks = λ traits bounds. goes_named _ names name arguments all traits bounds }

  pub goes_this_checks : (at : Place) → Goes base Free (this_checks at)
  unfolding this_checks
  goes_this_checks _ = goes_then (free_reads _) (λ outside g. goes_unless _ _ _)

  pub goes_container_checks : {element : Mention} (c : Container) → GoodMention base element → (bounds : Bool) → Goes base Free (container_checks c element bounds)
  goes_container_checks container.Vec good bounds = good.checks bounds
  goes_container_checks container.Keyset good bounds = goes_next (good.checks bounds) (goes_either bounds (goes_expect_key _ _) (goes_pure _ tt))

  pub goes_dict_checks : {key value : Mention} → GoodMention base key → GoodMention base value → (bounds : Bool) → Goes base Free (dict_checks key value bounds)
  unfolding dict_checks
  goes_dict_checks k v bounds = goes_next (k.checks bounds) (goes_next (v.checks bounds) (goes_either bounds (goes_expect_key _ _) (goes_pure _ tt)))

  pub goes_fields_checks : (keys : List ℕ) (fields : List FieldMention) → AllByRecursion (GoodField base) fields → (bounds : Bool)
      → Goes base Free (fields_checks keys fields bounds)
  unfolding fields_checks
  goes_fields_checks keys [] all bounds = goes_pure _ tt
  goes_fields_checks keys (field ∷ fields) all bounds =
      goes_next (goes_unless _ _ _) (goes_next (all.0.value.checks bounds) (goes_fields_checks (field.key ∷ keys) fields all.1 bounds))

  pub goes_whole : (at : Place) (ty : HackType) {checks : Bool → Walk (Unit {0})} → ((bounds : Bool) → Goes base Free (checks bounds))
      → Goes base Free (whole at ty checks)
  unfolding whole
  goes_whole at ty p = goes_next (p (nat_le (nodes ty) most_nodes)) (goes_next (goes_unless _ _ _) (goes_pure _ tt))
