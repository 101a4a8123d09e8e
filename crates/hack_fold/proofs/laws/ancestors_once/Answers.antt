use Rattle.hack_fold.proofs.LawsHold.{ancestors_once}
use Rattle.hack_fold.proofs.laws.ancestors_once.Goals as goal

pub returns : goal.returns
returns c = λ shallows s class is. ancestors_once shallows s class is
