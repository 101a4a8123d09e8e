use Rattle.hack_names.proofs.Lawful.{winner_then_losers}
use Rattle.hack_names.proofs.laws.winner_and_losers.Goals as goal

pub returns : goal.returns
returns c = winner_then_losers
