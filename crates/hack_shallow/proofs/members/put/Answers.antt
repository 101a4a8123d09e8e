use Rattle.std.proofs.Common.{sym, ◌∙◌}
use Rattle.hack_shallow.proofs.PutMember.{stays, goes}
use Rattle.hack_shallow.proofs.members.put.Goals as goal

pub returns-then-counts_before : goal.returns-then-counts_before
returns-then-counts_before c = λ own es.
    stays own c.args.member c.args.table.now.entries c.key_of-key.result _ es c.key_of-key.ensures c.get.ensures.value (sym c.counts_before.ensures ∙ c.if-counts_before.true)

pub returns : goal.returns
returns c = λ own es.
    goes own c.args.member c.args.table.now.entries c.insert.new.self.entries c.key_of-key.result _ es c.key_of-key.ensures c.get.ensures.value (sym c.counts_before.ensures ∙ c.if-counts_before.false)
    c.in_ok-insert.ensures.entries
