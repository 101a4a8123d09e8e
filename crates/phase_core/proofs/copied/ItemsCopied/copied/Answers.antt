use Rattle.phase_core.proofs.Lists.{copied_more}
use Rattle.phase_core.proofs.copied.ItemsCopied.copied.Goals as goal

pub loop-item-preserved : goal.loop-item-preserved
loop-item-preserved g c = copied_more _ _ _ _ _ _ c.loop-item-test.true c.item-item.is c.in_ok-copied.ensures c.loop-item.invariant c.in_ok-push.ensures.items
