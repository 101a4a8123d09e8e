use Rattle.script_text.proofs.InTwo.{file_in_two, bad_in_two, waits_in_two}
use Rattle.script_text.proofs.laws.files_are_read_in_two.Goals as goal

pub returns-clause-body : goal.returns-clause-body
returns-clause-body c = file_in_two

pub returns-clause-bad : goal.returns-clause-bad
returns-clause-bad c = bad_in_two

pub returns-clause-waits : goal.returns-clause-waits
returns-clause-waits c = waits_in_two
