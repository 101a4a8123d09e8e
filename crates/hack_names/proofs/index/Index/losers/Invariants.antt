use Rattle.std.specs.BTreeMap as tree
use Rattle.hack_names.specs.Inside.{spot_order, HasOnlyLosers}
use Rattle.hack_names.proofs.Indexed.{ToCome}
use Rattle.hack_names.proofs.index.Index.losers.Given as goal

abbrev pub invariant-loop-symbol : goal.invariant-loop-symbol
invariant-loop-symbol l = record {
  ordered : tree.IsOrdered spot_order l.losers;
  only : HasOnlyLosers l.self.declared l.losers;
  come : ToCome l.self.declared l.self.contested l.losers l.symbol-iterator;
}
