use Rattle.script_text.proofs.SettledBodies.{body_found-settled, body_bad-settled}
use Rattle.script_text.proofs.laws.bodies_are_settled.Goals as goal

pub returns-clause-body : goal.returns-clause-body
returns-clause-body c = body_found-settled

pub returns-clause-bad : goal.returns-clause-bad
returns-clause-bad c = body_bad-settled
