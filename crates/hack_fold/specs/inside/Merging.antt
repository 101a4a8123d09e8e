-- Lists of members, of which what comes first stands last, as they are merged.
use Rattle.std.specs.Prelude.{◌≡◌, ◌-◌, Option, Some, None, List, [], ◌∷◌, length, reverse, slice_get}
use Rattle.std.specs.List.{fold}
use Rattle.std.specs.declared.cmp.Ordering.{Ordering}
use Rattle.std.specs.declared.cmp.Ordering.TheVariants.{Less, Greater}
use Rattle.hack_types.specs.MembersRise.{member_order}
use Rattle.hack_types.specs.declared.shallow.Member.{Member}
use Rattle.hack_fold.specs.Walked.{with_member}

abbrev pub last_of : List Member → Option Member
last_of members = slice_get members (length members - 1)

-- how the next of the second list stands to the next of the first; where a list has none left, the other comes first
abbrev pub next_order : Option Member → Option Member → Ordering
next_order None second = Less
next_order (Some own) None = Greater
next_order (Some own) (Some other) = member_order other own

-- both lists in one
abbrev pub both_of : List Member → List Member → List Member
both_of first second = fold with_member (reverse first) (reverse second)

-- what comes first of all, and what is left behind it
abbrev pub Takes : List Member → Option Member → List Member → Type 0
Takes all None left = all ≡ []
Takes all (Some member) left = all ≡ member ∷ left
