-- Tests go well, and what they make of the variables follows.
use Rattle.std.proofs.Common.{ℕ, Option, Some}
use Rattle.hack_types.specs.declared.hack_type.HackType.{HackType}
use Rattle.hack_rules.specs.Refining.{bare_branches, behind_as, tested_branches}
use Rattle.hack_rules.specs.Variables.{Variables}
use Rattle.hack_rules.proofs.Environments.{Follows, follows_refined}
use Rattle.hack_rules.proofs.Meanings.{Parted}
use Rattle.hack_rules.proofs.Steps.{Goes, goes_reads, goes_then, goes_variables}

module _ {base : Variables} where
  pub goes_tested_branches : (tested : HackType) (subject : Option ℕ) → Goes base (Parted base) (tested_branches subject tested)
  unfolding tested_branches
  goes_tested_branches _ subject = goes_then goes_variables (λ here f. goes_reads _ (λ map scope. (follows_refined _ subject f, follows_refined _ subject f)))

  pub goes_behind_as : (tested : HackType) (subject : Option ℕ) → Goes base (Follows base) (behind_as subject tested)
  unfolding behind_as
  goes_behind_as _ subject = goes_then goes_variables (λ here f. goes_reads _ (λ map scope. follows_refined _ subject f))

  pub goes_bare_branches : (name : ℕ) → Goes base (Parted base) (bare_branches name)
  unfolding bare_branches
  goes_bare_branches name = goes_then goes_variables (λ here f. goes_reads _ (λ map scope. (follows_refined _ (Some name) f, f)))
