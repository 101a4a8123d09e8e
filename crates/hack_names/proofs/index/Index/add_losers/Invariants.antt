use Rattle.std.specs.BTreeMap as tree
use Rattle.hack_names.specs.Inside.{spot_order, HasOnlyLosers, KeepsSpots}
use Rattle.hack_names.proofs.Indexed.{Going}
use Rattle.hack_names.proofs.index.Index.add_losers.Given as goal

abbrev pub invariant-loop-key : goal.invariant-loop-key
invariant-loop-key l = record {
  ordered : tree.IsOrdered spot_order l.losers;
  going : Going l.self.declared l.symbol l.losers l.key-iterator;
  only : HasOnlyLosers l.self.declared l.losers;
  kept : KeepsSpots l.fn.losers l.losers;
}
