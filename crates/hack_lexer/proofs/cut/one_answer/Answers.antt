use Rattle.hack_lexer.proofs.Cuts.{one_list, no_both, one_fault}
use Rattle.hack_lexer.proofs.cut.one_answer.Goals as goal

pub returns-clause-tokens : goal.returns-clause-tokens
returns-clause-tokens c = one_list

pub returns-clause-tokens_or_fault : goal.returns-clause-tokens_or_fault
returns-clause-tokens_or_fault c = no_both

pub returns-clause-fault : goal.returns-clause-fault
returns-clause-fault c = one_fault
