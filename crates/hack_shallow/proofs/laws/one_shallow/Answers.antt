use Rattle.hack_shallow.proofs.OneShallow.{one}
use Rattle.hack_shallow.proofs.laws.one_shallow.Goals as goal

pub returns : goal.returns
returns c = one
