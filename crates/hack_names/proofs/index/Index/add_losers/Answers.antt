use Rattle.std.proofs.Common.{sym, subst}
use Rattle.hack_names.specs.declared.keys.Spot.{Spot}
use Rattle.hack_names.proofs.Indexed.{going, going_on, only_on, spots_put, losers_at_other, IsPut, Going, ne_true, ne_false}
use Rattle.hack_names.proofs.index.Index.add_losers.Goals as goal

pub loop-key-init : goal.loop-key-init
loop-key-init c = record {
  ordered = c.requires.ordered;
  going = subst (Going c.args.self.now.declared c.args.symbol c.args.losers.now) (sym c.into_iter-key-iterator.ensures.into_iter_gives)
      (going c.args.self.now.declared c.args.symbol c.args.losers.now c.from_symbol-entries.result c.next-first.new.self c.next-first.result c.from_symbol-entries.ensures.ordered c.from_symbol-entries.ensures.entries c.next-first.ensures.steps);
  only = c.requires.only;
  kept = λ spot has. has;
}

pub loop-key-preserved : goal.loop-key-preserved
loop-key-preserved c =
    let declared = c.args.self.now.declared in
    let losers = c.loop-key.losers in
    let put : IsPut losers c.in-Some.key.now.spot c.in-Some.head.now c.insert.new.self =
    subst (λ (s : Spot). IsPut losers s c.in-Some.head.now c.insert.new.self) c.in_ok-copy.ensures c.in_ok-insert.ensures.updates.0 in
    let before = subst (Going declared c.args.symbol losers) c.in-Some.ensures.steps c.loop-key.invariant.going in
    record {
      ordered = c.insert.ensures.ordered;
      going = going_on declared c.args.symbol losers c.insert.new.self (c.in-Some.key.now, c.in-Some.head.now) c.next.new.self put before;
      only = only_on declared c.args.symbol losers c.insert.new.self (c.in-Some.key.now, c.in-Some.head.now) c.next.new.self c.from_symbol-entries.ensures.ordered (ne_false c.in-Some.key.now.symbol c.args.symbol c.ne.result c.ne.ensures c.if-ne.false) put before c.loop-key.invariant.only;
      kept = λ spot has. spots_put losers c.insert.new.self c.in-Some.key.now.spot c.in-Some.head.now put spot (c.loop-key.invariant.kept spot has);
    }

pub returns-then-ne-clause-of_symbol : goal.returns-then-ne-clause-of_symbol
returns-then-ne-clause-of_symbol c =
    losers_at_other c.args.self.now.declared c.args.symbol c.loop-key.losers (c.in-Some.key.now, c.in-Some.head.now) c.next.new.self (ne_true c.in-Some.key.now.symbol c.args.symbol c.ne.result c.ne.ensures c.if-ne.true)
    (subst (Going c.args.self.now.declared c.args.symbol c.loop-key.losers) c.in-Some.ensures.steps c.loop-key.invariant.going)
