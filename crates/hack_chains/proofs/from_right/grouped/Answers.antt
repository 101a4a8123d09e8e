use Rattle.std.proofs.Common.{arith}
use Rattle.hack_chains.proofs.RightSteps.{grouped_next, grouped_none}
use Rattle.hack_chains.proofs.from_right.grouped.Goals as goal

pub loop-i-init : goal.loop-i-init
loop-i-init g c = grouped_none c.args.grouping c.args.items.now c.args.last

pub loop-i-preserved : goal.loop-i-preserved
loop-i-preserved g c =
    let items = c.args.items.now in let k = c.loop-i.i in
    grouped_next c.args.grouping items _ k c.index-items-i.result c.args.last (omega arith) (omega arith) c.index-items-i.is c.loop-i.invariant c.in_ok-ty.ensures
