-- Calls go well.
use Rattle.std.proofs.Common.{ℕ, List}
use Rattle.hack_types.specs.declared.place.Place.{Place}
use Rattle.hack_types.specs.declared.signature.Param.{Param}
use Rattle.hack_types.specs.declared.signature.Signature.{Signature}
use Rattle.hack_infer.specs.Filling.{Filling}
use Rattle.hack_rules.specs.Calls.{Callee, argument, arguments_of, call_with, expect_all, expect_count, solved_types}
use Rattle.hack_rules.specs.Meanings.{Meaning}
use Rattle.hack_rules.specs.Variables.{Variables}
use Rattle.hack_rules.specs.WrittenTypes.{Argument}
use Rattle.hack_rules.proofs.Meanings.{AllSound, Sound}
use Rattle.hack_rules.proofs.Steps.{Free, Goes, free_pairs, free_reads, goes_each, goes_expect, goes_next, goes_pure, goes_then, goes_unless}
use Rattle.hack_rules.proofs.WrittenTypes.{goes_expect_within}

module _ {base : Variables} where
  goes_argument : {meaning : Meaning} → Sound base meaning → Goes base Free (argument meaning)
  unfolding argument
  goes_argument m = goes_then m.walk (λ ty g. goes_pure _ tt)

  pub goes_arguments : (meanings : List Meaning) → AllSound base meanings → Goes base Free (arguments_of meanings)
  unfolding arguments_of
  goes_arguments meanings all = goes_each (Sound base) (λ m good. goes_argument good) meanings all

  pub goes_expect_count : (at : Place) (least most : ℕ) (arguments : List Argument) → Goes base Free (expect_count at least most arguments)
  unfolding expect_count
  goes_expect_count _ _ _ _ = goes_unless _ _ _

  pub goes_solved_types : (signature : Signature) (arguments : List Argument) → Goes base Free (solved_types signature arguments)
  unfolding solved_types
  goes_solved_types _ _ = free_reads _

  goes_expect_all : (filling : Filling) (params : List Param) (arguments : List Argument) → Goes base Free (expect_all filling params arguments)
  unfolding expect_all
  goes_expect_all _ _ _ = free_pairs (λ param argument. goes_expect _ _ _) _ _

  pub goes_call_with : (at : Place) (callee : Callee) (arguments : List Argument) → Goes base Free (call_with at callee arguments)
  unfolding call_with
  goes_call_with _ _ _ = goes_next (goes_expect_count _ _ _ _) (goes_then (goes_solved_types _ _) (λ solved g.
      goes_next (goes_expect_all _ _ _) (goes_next (free_pairs (λ param ty. goes_expect_within _ _ _ _) _ _) (goes_pure _ tt))))
