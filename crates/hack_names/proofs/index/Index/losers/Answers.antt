use Rattle.std.proofs.Common.{subst, ◌∙◌}
use Rattle.hack_names.proofs.Indexed.{all_to_come, come_on, ToCome, only_of_none}
use Rattle.hack_names.proofs.index.Index.losers.Goals as goal

pub loop-symbol-init : goal.loop-symbol-init
loop-symbol-init c = record {
  ordered = c.new-losers.ensures.ordered;
  only = only_of_none c.args.self.now.declared c.new-losers.result c.new-losers.ensures.empty;
  come = all_to_come c.args.self.now.declared c.args.self.now.contested c.new-losers.result c.into_iter-symbol-iterator.result (c.into_iter-symbol-iterator.ensures.into_iter_gives ∙ c.iter-symbol-items.ensures.rest);
}

pub loop-symbol-preserved : goal.loop-symbol-preserved
loop-symbol-preserved c = record {
  ordered = c.in_ok-add_losers.ensures.ordered;
  only = c.in_ok-add_losers.ensures.only;
  come = come_on c.args.self.now.declared c.args.self.now.contested c.loop-symbol.losers c.add_losers.new.losers c.in-Some.symbol.now c.next.new.self c.in_ok-add_losers.ensures.kept c.in_ok-add_losers.ensures.of_symbol
      (subst (ToCome c.args.self.now.declared c.args.self.now.contested c.loop-symbol.losers) c.in-Some.ensures.steps c.loop-symbol.invariant.come);
}
