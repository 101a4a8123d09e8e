use Rattle.script_text.proofs.SettledBodies.{command_found-settled, command_end-settled}
use Rattle.script_text.proofs.laws.commands_are_settled.Goals as goal

pub returns-clause-command : goal.returns-clause-command
returns-clause-command c = command_found-settled

pub returns-clause-end : goal.returns-clause-end
returns-clause-end c = command_end-settled
