use Rattle.script_text.proofs.Settled.{head_found-settled, head_broken-settled}
use Rattle.script_text.proofs.laws.heads_are_settled.Goals as goal

pub returns-clause-found : goal.returns-clause-found
returns-clause-found c = head_found-settled

pub returns-clause-broken : goal.returns-clause-broken
returns-clause-broken c = head_broken-settled
