use Rattle.hack_fold.proofs.LawsHold.{own_alone}
use Rattle.hack_fold.proofs.laws.own_alone.Goals as goal

pub returns : goal.returns
returns c = λ shallows s sig class here kind rise uses extends implements is. own_alone shallows s sig class here kind rise uses extends implements is
