use Rattle.script_text.proofs.OneScript as script
use Rattle.script_text.proofs.WholeScripts.{has_script}
use Rattle.script_text.proofs.laws.one_script.Goals as goal

pub returns-clause-some : goal.returns-clause-some
returns-clause-some c = has_script

pub returns-clause-one : goal.returns-clause-one
returns-clause-one c = script.one_script
