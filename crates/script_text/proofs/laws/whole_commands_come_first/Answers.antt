use Rattle.script_text.proofs.WholeScripts.{whole_first}
use Rattle.script_text.proofs.laws.whole_commands_come_first.Goals as goal

pub returns : goal.returns
returns c = whole_first
