use Rattle.std.proofs.Common.{Less, Greater, Equal, sym}
use Rattle.hack_fold.proofs.MergeLemmas.{left_rises, none_taken, order_told, takes_first, takes_second}
use Rattle.hack_fold.proofs.merge.take_next.Goals as goal

pub returns-in-Less-clause-takes : goal.returns-in-Less-clause-takes
returns-in-Less-clause-takes c =
    let first = c.args.first.now.items in
    let second = c.args.second.now.items in
    takes_second first second c.pop.new.self.items c.pop.result c.pop.ensures.items (none_taken second c.args.second.now.len c.pop.result (sym c.args.second.now.ok.0) c.pop.ensures.variant)
    (order_told first second c.as_slice.result.now c.as_slice-2.result.now Less c.in-Less.ensures c.as_slice.ensures.value c.as_slice-2.ensures.value) c.requires.second_rises

pub returns-in-Less-clause-second_rises : goal.returns-in-Less-clause-second_rises
returns-in-Less-clause-second_rises c = left_rises c.args.second.now.items c.pop.new.self.items c.pop.result c.pop.ensures.items c.requires.second_rises

pub returns-in-Greater-clause-takes : goal.returns-in-Greater-clause-takes
returns-in-Greater-clause-takes c =
    let first = c.args.first.now.items in
    let second = c.args.second.now.items in
    takes_first first second c.pop-in-Greater.new.self.items c.pop-in-Greater.result c.pop-in-Greater.ensures.items (none_taken first c.args.first.now.len c.pop-in-Greater.result (sym c.args.first.now.ok.0) c.pop-in-Greater.ensures.variant)
    (order_told first second c.as_slice.result.now c.as_slice-2.result.now Greater c.in-Greater.ensures c.as_slice.ensures.value c.as_slice-2.ensures.value) c.requires.second_rises

pub returns-in-Greater-clause-first_rises : goal.returns-in-Greater-clause-first_rises
returns-in-Greater-clause-first_rises c =
    left_rises c.args.first.now.items c.pop-in-Greater.new.self.items c.pop-in-Greater.result c.pop-in-Greater.ensures.items c.requires.first_rises

pub take_both-requires-clause-tied : goal.take_both-requires-clause-tied
take_both-requires-clause-tied c =
    order_told c.args.first.now.items c.args.second.now.items c.as_slice.result.now c.as_slice-2.result.now Equal c.in-Equal.ensures c.as_slice.ensures.value c.as_slice-2.ensures.value
