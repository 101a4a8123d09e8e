use Rattle.hack_fold.proofs.LawsHold.{members_declared}
use Rattle.hack_fold.proofs.laws.members_declared.Goals as goal

pub returns : goal.returns
returns c = λ shallows s class is. members_declared shallows s class is
