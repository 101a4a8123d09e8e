use Rattle.hack_first.proofs.UnitLaws.{body_is_tree, fault_is_no_body, one_list}
use Rattle.hack_first.proofs.laws.as_trees.Goals as goal

pub returns-clause-tree : goal.returns-clause-tree
returns-clause-tree c = body_is_tree

pub returns-clause-fault : goal.returns-clause-fault
returns-clause-fault c = fault_is_no_body

pub returns-clause-one : goal.returns-clause-one
returns-clause-one c = one_list
