use Rattle.hack_parse_file.proofs.OneTree as laws
use Rattle.hack_parse_file.proofs.file.trees_stay.Goals as goal

pub returns-clause-is : goal.returns-clause-is
returns-clause-is c = laws.is_tree

pub returns-clause-is_fault : goal.returns-clause-is_fault
returns-clause-is_fault c = laws.is_fault

pub returns-clause-stays : goal.returns-clause-stays
returns-clause-stays c = laws.tree_stays

pub returns-clause-one : goal.returns-clause-one
returns-clause-one c = laws.one_tree_of

pub returns-clause-fault : goal.returns-clause-fault
returns-clause-fault c = laws.no_fault_of_tree
