use Rattle.std.specs.List.{flat_map}
use Rattle.hack_shallow.specs.Members.{declared}
use Rattle.hack_shallow.proofs.ChosenMembers.{chosen_is}
use Rattle.hack_shallow.proofs.laws.one_member.Goals as goal

pub returns : goal.returns
returns c = λ owner trees q. chosen_is (flat_map (declared owner) trees) q
