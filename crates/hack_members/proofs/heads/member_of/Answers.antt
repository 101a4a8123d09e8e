use Rattle.hack_rules.specs.Members.{member_of}
use Rattle.hack_members.proofs.heads.member_of.Goals as goal

pub returns : goal.returns
unfolding member_of
returns g c = c.members_within.ensures
