use Rattle.std.proofs.Common.{arith}
use Rattle.hack_assigned.proofs.Suffixed.{last_kept, next_kept}
use Rattle.hack_assigned.proofs.roots.root_behind.Goals as goal

pub loop-suffix-preserved : goal.loop-suffix-preserved
loop-suffix-preserved c =
    next_kept c.args.suffixes.now c.loop-suffix.suffix-index c.suffix-item.result _ c.loop-suffix-test.true c.suffix-item.is c.root_with-behind.ensures c.loop-suffix.invariant

pub returns : goal.returns
returns c = last_kept c.args.suffixes.now c.loop-suffix.suffix-index _ (omega arith) c.loop-suffix.invariant
