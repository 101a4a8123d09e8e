use Rattle.std.proofs.Common.{◌≡◌, map, take}
use Rattle.hack_fold.specs.inside.FromParents.{member_in}
use Rattle.hack_fold.proofs.inherit.members_of.Given as goal

abbrev pub invariant-loop-member : goal.invariant-loop-member
invariant-loop-member l = l.members.items ≡ map (member_in l.child l.arguments l.class.sort) (take l.member-index l.own)
