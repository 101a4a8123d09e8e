-- The members of a table rise.
use Rattle.std.proofs.Common.{◌≡◌, ◌∷◌, List, [], map, refl, sym, ap, ◌∙◌}
use Rattle.std.specs.List.{AllByRecursion}
use Rattle.std.specs.List.Sorted.{IsStrictlySortedBy}
use Rattle.std.specs.Map.{keys_of}
use Rattle.std.specs.declared.cmp.Ordering.TheVariants.{Less}
use Rattle.hack_types.specs.declared.shallow.Member.{Member}
use Rattle.hack_types.specs.MembersRise.{MembersRise, member_order}
use Rattle.hack_shallow.specs.contracts.members.MemberKeyOrd.TheImpl.{cmp-value}
use Rattle.hack_shallow.specs.MemberTables.{key_of, entries_of}
use Rattle.hack_shallow.proofs.PutMember.{same_order}

below : (m : Member) (own : List Member) → AllByRecursion (λ k. cmp-value.it (key_of m) k ≡ Less) (keys_of (entries_of own)) → AllByRecursion (λ n. member_order m n ≡ Less) own
below m [] all = tt
below m (n ∷ own) all = (sym (same_order m n) ∙ all.0, below m own all.1)

pub rise : (own : List Member) → IsStrictlySortedBy cmp-value.it (keys_of (entries_of own)) → MembersRise own
unfolding IsStrictlySortedBy
rise [] sorted = tt
rise (m ∷ own) sorted = (below m own sorted.0, rise own sorted.1)

pub members_of : (own : List Member) → map (λ e. e.1) (entries_of own) ≡ own
members_of [] = refl
members_of (m ∷ own) = ap (λ members. m ∷ members) (members_of own)
