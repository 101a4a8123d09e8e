use Rattle.check_state.proofs.BuiltinTree as laws
use Rattle.check_state.proofs.laws.builtin_text_has_a_tree.Goals as goal

pub returns-clause-no_fault : goal.returns-clause-no_fault
returns-clause-no_fault c = laws.builtin_has_no_fault

pub returns-clause-tree : goal.returns-clause-tree
returns-clause-tree c = laws.builtin_has_a_tree

pub returns-clause-classes : goal.returns-clause-classes
returns-clause-classes c = laws.builtin_units

pub returns-clause-six : goal.returns-clause-six
returns-clause-six c = laws.builtin_six
