-- Expressions all of whose walks go well.
use Rattle.std.proofs.Common.{ℕ, Option, Some, None, List}
use Rattle.std.specs.List.{AllByRecursion}
use Rattle.hack_types.specs.declared.hack_type.HackType.{HackType}
use Rattle.hack_types.specs.declared.place.Place.{Place}
use Rattle.hack_rules.specs.Meanings.{Branches, Meaning, no_aim, plain, plain_branches}
use Rattle.hack_rules.specs.Variables.{Variables}
use Rattle.hack_rules.specs.Walks.{Walk}
use Rattle.hack_rules.proofs.Environments.{Follows}
use Rattle.hack_rules.proofs.Steps.{Free, Goes, goes_next, goes_pure, goes_then, goes_variables}

-- both branches follow
abbrev pub Parted : Variables → Branches → Type 0
Parted base branches = Follows base branches.when_true × Follows base branches.when_false

pub record Sound (base : Variables) (meaning : Meaning) : Type 0 where
  pub walk : Goes base Free meaning.walk
  pub left : Goes base Free meaning.left
  pub branches : Goes base (Parted base) meaning.branches
  pub aim : Goes base Free meaning.aim
  pub left_aim : Goes base Free meaning.left_aim

-- of a list
abbrev pub AllSound : Variables → List Meaning → Type 0
AllSound base meanings = AllByRecursion (Sound base) meanings

-- where there is one
abbrev pub MaySound : Variables → Option Meaning → Type 0
MaySound base None = Unit {0}
MaySound base (Some meaning) = Sound base meaning

-- where there are some
abbrev pub MayAllSound : Variables → Option (List Meaning) → Type 0
MayAllSound base None = Unit {0}
MayAllSound base (Some meanings) = AllSound base meanings

module _ {base : Variables} where
  pub goes_plain_branches : {walk : Walk HackType} → Goes base Free walk → Goes base (Parted base) (plain_branches walk)
  unfolding plain_branches
  goes_plain_branches p = goes_next p (goes_then goes_variables (λ behind f. goes_pure _ (f, f)))

  pub goes_no_aim : (at : Place) {walk : Walk HackType} → Goes base Free walk → Goes base Free (no_aim at walk)
  unfolding no_aim
  goes_no_aim _ p = goes_then p (λ ty g. goes_pure _ tt)

  pub sound_plain : {at : Place} {walk : Walk HackType} {assigned : List ℕ} → Goes base Free walk → Sound base (plain at walk assigned)
  sound_plain p = record { walk = p; left = p; branches = goes_plain_branches p; aim = goes_no_aim _ p; left_aim = goes_no_aim _ p }
