-- Members in the order of a class: constants, then properties, then methods, those of a kind by the ids of their names, each name
-- once of each kind.
use Rattle.std.specs.Prelude.{ℕ, List}
use Rattle.std.specs.List.Sorted.{IsStrictlySortedBy}
use Rattle.std.specs.Ordering.{nat_cmp, ordering_then}
use Rattle.std.specs.declared.cmp.Ordering.{Ordering}
use Rattle.hack_types.specs.declared.shallow.Member.{Member}
use Rattle.hack_types.specs.declared.shallow.MemberKind.{MemberKind}
use Rattle.hack_types.specs.declared.shallow.MemberKind.TheVariants.{Constant, Property, Method}

-- the place of a kind: constants, then properties, then methods
abbrev pub kind_rank : MemberKind → ℕ
kind_rank (Constant ty) = 0
kind_rank (Property ty) = 1
kind_rank (Method signature) = 2

-- by kind, then by the id of the name
abbrev pub member_order : Member → Member → Ordering
member_order a b = ordering_then (nat_cmp (kind_rank a.kind) (kind_rank b.kind)) (nat_cmp a.name b.name)

-- each member is below those after it
abbrev pub MembersRise : List Member → Type 0
MembersRise members = IsStrictlySortedBy member_order members
