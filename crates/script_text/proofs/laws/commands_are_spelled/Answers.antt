use Rattle.script_text.proofs.SpelledCommands.{command_read}
use Rattle.script_text.proofs.laws.commands_are_spelled.Goals as goal

pub returns : goal.returns
returns c = command_read
