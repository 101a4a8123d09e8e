use Rattle.hack_parse_stmt.proofs.StatementsFollow.{statements_stand, statements_fail}
use Rattle.hack_parse_stmt.proofs.laws.as_the_table.Goals as goal

pub returns-clause-stands : goal.returns-clause-stands
returns-clause-stands c = statements_stand

pub returns-clause-fails : goal.returns-clause-fails
returns-clause-fails c = statements_fail
