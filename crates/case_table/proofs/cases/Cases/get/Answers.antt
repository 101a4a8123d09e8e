use Rattle.std.proofs.Common.{◌≡◌, ◌<◌, length, get_or, [], arith, sym}
use Rattle.case_table.specs.Cases.{words}
use Rattle.case_table.proofs.Words.{value_of-at, value_of-none, earlier_differ}
use Rattle.case_table.proofs.cases.Cases.get.Goals as goal

pub returns-in-Some : goal.returns-in-Some
returns-in-Some g c =
    let table = c.args.self.now in
    let ws = words table.keys.now in
    let found = c.in-Some.ensures.found in
    let same : get_or ws c.in-Some.index [] ≡ c.args.key.now = rw c.as_bytes-bytes.ensures.value at found.1 in
    let inside : c.in-Some.index < length ws = omega (arith, found.0, table.placed.placed.count) in
    sym (value_of-at ws table.values c.args.key.now c.in-Some.index inside (omega (arith, found.0, table.placed.same_length)) same
    (earlier_differ ws c.args.key.now c.in-Some.index table.placed.keys_rise.rising inside same))

pub returns-in-None : goal.returns-in-None
returns-in-None g c =
    let table = c.args.self.now in
    let ws = words table.keys.now in
    let none = rw c.as_bytes-bytes.ensures.value at c.in-None.ensures.none in
    sym (value_of-none ws table.values c.args.key.now (λ k h. none k (omega (arith, h, table.placed.placed.count))))
