use Rattle.hack_names.proofs.Lawful.{files_and_places, ties}
use Rattle.hack_names.proofs.laws.in_order.Goals as goal

pub returns-clause-files_and_places : goal.returns-clause-files_and_places
returns-clause-files_and_places c = files_and_places

pub returns-clause-ties : goal.returns-clause-ties
returns-clause-ties c = ties
