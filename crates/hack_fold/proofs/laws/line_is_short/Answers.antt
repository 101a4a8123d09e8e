use Rattle.hack_fold.proofs.LawsHold.{line_is_short}
use Rattle.hack_fold.proofs.laws.line_is_short.Goals as goal

pub returns : goal.returns
returns c = λ shallows s. line_is_short shallows s
