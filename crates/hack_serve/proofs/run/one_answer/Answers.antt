use Rattle.std.proofs.Common.{Some}
use Rattle.hack_serve.proofs.Settled.{answered, settled_by_all}
use Rattle.hack_serve.proofs.Unique as unique
use Rattle.hack_serve.proofs.run.one_answer.Goals as goal

pub returns-clause-answer : goal.returns-clause-answer
returns-clause-answer c = unique.one_answer

pub returns-clause-settled : goal.returns-clause-settled
returns-clause-settled c = λ taken rest out status settled. answered (Some rest) taken out status settled

pub returns-clause-all : goal.returns-clause-all
returns-clause-all c = settled_by_all

pub returns-clause-report : goal.returns-clause-report
returns-clause-report c = unique.one_report
