use Rattle.std.proofs.Common.{arith}
use Rattle.case_table.proofs.Words.{IsTable-from}
use Rattle.case_table.proofs.cases.Cases.new.Goals as goal

pub invariant_of-result : goal.invariant_of-result
invariant_of-result g c =
    let placed = rw c.as_bytes-bytes.ensures.value at c.if-not-find_ends.ensures.placed in
    let rising = rw c.as_bytes-bytes.ensures.value at c.if-not-rises.ensures.yes in
    record { placed = IsTable-from c.args.keys.now c.find_ends.new.ends c.args.values (omega arith) placed rising }
