use Rattle.hack_parse_file.proofs.OneTree as laws
use Rattle.hack_parse_file.proofs.file.one_tree.Goals as goal

pub returns-clause-tree : goal.returns-clause-tree
returns-clause-tree c = laws.one_tree

pub returns-clause-tree_or_fault : goal.returns-clause-tree_or_fault
returns-clause-tree_or_fault c = laws.tree_or_fault

pub returns-clause-fault : goal.returns-clause-fault
returns-clause-fault c = laws.one_file_fault

pub returns-clause-refused : goal.returns-clause-refused
returns-clause-refused c = laws.one_refused
