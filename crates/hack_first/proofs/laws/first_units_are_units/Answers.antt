use Rattle.hack_first.proofs.UnitLaws.{unit_is_function, name_id, call_id, units_in_order}
use Rattle.hack_first.proofs.laws.first_units_are_units.Goals as goal

pub returns-clause-symbol : goal.returns-clause-symbol
returns-clause-symbol c = unit_is_function

pub returns-clause-name : goal.returns-clause-name
returns-clause-name c = name_id

pub returns-clause-call : goal.returns-clause-call
returns-clause-call c = call_id

pub returns-clause-order : goal.returns-clause-order
returns-clause-order c = units_in_order
