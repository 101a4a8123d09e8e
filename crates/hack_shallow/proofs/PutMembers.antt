-- Members that are put one after another.
use Rattle.std.proofs.Common.{◌≡◌, ◌∷◌, ◌++◌, List, [], refl, ap, ◌∙◌}
use Rattle.std.specs.BTreeMap.{BTreeMap}
use Rattle.hack_types.specs.declared.shallow.Member.{Member}
use Rattle.hack_shallow.specs.declared.members.MemberKey.{MemberKey}
use Rattle.hack_shallow.specs.Members.{with_member, with_members}
use Rattle.hack_shallow.specs.MemberTables.{Puts, entries_of}

pub puts_then : (before mid after : BTreeMap MemberKey Member) (m n : Member) (more : List Member) → m ≡ n → Puts before (m ∷ []) mid → Puts mid more after → Puts before (n ∷ more) after
puts_then before mid after m n more is first then_more own es = then_more (with_member own n) (first own es ∙ ap (λ x. entries_of (with_member own x)) is)

pub with_members_append : (own first more : List Member) → with_members own (first ++ more) ≡ with_members (with_members own first) more
with_members_append own [] more = refl
with_members_append own (m ∷ first) more = with_members_append (with_member own m) first more
