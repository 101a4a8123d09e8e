use Rattle.hack_fold.proofs.LawsHold.{one_folded}
use Rattle.hack_fold.proofs.laws.one_folded.Goals as goal

pub returns : goal.returns
returns c = λ shallows s a b first second. one_folded shallows s a b first second
