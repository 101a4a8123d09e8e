use Rattle.hack_parse_expr.proofs.Runs.{stands_once, fails_once, stands_or_fails}
use Rattle.hack_parse_expr.proofs.laws.one_reading.Goals as goal

pub returns-clause-stands : goal.returns-clause-stands
returns-clause-stands c = stands_once

pub returns-clause-fails : goal.returns-clause-fails
returns-clause-fails c = fails_once

pub returns-clause-stands_or_fails : goal.returns-clause-stands_or_fails
returns-clause-stands_or_fails c = stands_or_fails
