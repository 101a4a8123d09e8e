use Rattle.std.proofs.Common.{◌≡◌, map, take}
use Rattle.hack_fold.proofs.put.put_all.Given as goal

abbrev pub invariant-loop-item : goal.invariant-loop-item
invariant-loop-item g l = l.put.items ≡ map (g.T.Put.with_put l.arguments) (take l.item-index l.item-items)
