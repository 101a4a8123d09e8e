-- The members so far, as the code keeps them: in a table by kind and name.
use Rattle.std.specs.Prelude.{◌≡◌, List, [], map}
use Rattle.std.specs.BTreeMap.{BTreeMap}
use Rattle.hack_types.specs.declared.shallow.MemberKind.{MemberKind}
use Rattle.hack_types.specs.declared.shallow.MemberKind.TheVariants as kind
use Rattle.hack_types.specs.declared.shallow.Member.{Member}
use Rattle.hack_shallow.specs.declared.members.MemberSort.{MemberSort}
use Rattle.hack_shallow.specs.declared.members.MemberSort.TheVariants as sort
use Rattle.hack_shallow.specs.declared.members.MemberKey.{MemberKey}
use Rattle.hack_shallow.specs.declared.members.Owner.{Owner as Inside}
use Rattle.hack_shallow.specs.Members.{Owner, with_members}

abbrev pub sort_of : MemberKind → MemberSort
sort_of (kind.Constant ty) = sort.Constant
sort_of (kind.Property ty) = sort.Property
sort_of (kind.Method signature) = sort.Method

abbrev pub key_of : Member → MemberKey
key_of m = record { sort = sort_of m.kind; name = m.name }

abbrev pub entries_of : List Member → List (MemberKey × Member)
entries_of members = map (λ m. (key_of m, m)) members

-- the table gets these members in turn
abbrev pub Puts : BTreeMap MemberKey Member → List Member → BTreeMap MemberKey Member → Type 0
Puts before members after = (own : List Member) → before.entries ≡ entries_of own → after.entries ≡ entries_of (with_members own members)

abbrev pub owner_of : Inside → Owner
owner_of owner = record { name = owner.name; parameters = owner.parameters.now }

-- outside a method no function's parameters stand
abbrev pub AreNone : Inside → Type 0
AreNone owner = owner.none.now ≡ []
