use Rattle.hack_sub.proofs.Decided.{decided}
use Rattle.hack_sub.proofs.Trees.{sub_of, tree_of}
use Rattle.hack_sub.proofs.laws.one_relation.Goals as goal

pub returns-clause-tree : goal.returns-clause-tree
returns-clause-tree c = λ map scope height S T. (tree_of map scope height S T, λ d. sub_of map scope d)

pub returns-clause-test : goal.returns-clause-test
returns-clause-test c = λ map scope height S T.
    (λ e. tree_of map scope height S T ((decided map scope height S T).0 e), λ d. (decided map scope height S T).1 (sub_of map scope d))
