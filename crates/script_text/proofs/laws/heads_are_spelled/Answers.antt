use Rattle.script_text.proofs.Spelling.{head-parts, head-found}
use Rattle.script_text.proofs.laws.heads_are_spelled.Goals as goal

pub returns-clause-read : goal.returns-clause-read
returns-clause-read c = head-parts

pub returns-clause-spelled : goal.returns-clause-spelled
returns-clause-spelled c = head-found
