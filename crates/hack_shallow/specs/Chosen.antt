-- Which of several members of one kind and name counts, said of all of them together.
use Rattle.std.specs.Prelude.{not, ◌&&◌, List, Option, Some, None}
use Rattle.std.specs.List.{find}
use Rattle.std.specs.Ordering.{is_eq}
use Rattle.hack_types.specs.declared.shallow.Member.{Member}
use Rattle.hack_types.specs.MembersRise.{member_order}
use Rattle.hack_shallow.specs.Members.{same_among}

-- the first of a member's kind and name that isn't abstract
abbrev pub first_concrete : List Member → Member → Option Member
first_concrete members q = find (λ m. is_eq (member_order q m) && not m.is_abstract) members

abbrev pub else_by : Option Member → Option Member → Option Member
else_by (Some m) other = Some m
else_by None other = other

-- that one, else the first
abbrev pub chosen : List Member → Member → Option Member
chosen members q = else_by (first_concrete members q) (same_among members q)
