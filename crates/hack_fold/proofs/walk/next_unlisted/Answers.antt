use Rattle.std.proofs.Common.{sym, ◌∙◌}
use Rattle.std.specs.BTreeSet as sorted
use Rattle.hack_types.specs.declared.ids.SymbolId.{SymbolId}
use Rattle.hack_decls.specs.PlainMap.{symbol_order}
use Rattle.hack_fold.proofs.WalkLemmas.{list_passed, list_stopped}
use Rattle.hack_fold.proofs.walk.next_unlisted.Goals as goal

pub returns-in-Some-first_unlisted : goal.returns-in-Some-first_unlisted
returns-in-Some-first_unlisted c =
    let p = λ (t : SymbolId). sorted.contains symbol_order c.args.listed.now t in
    sym c.loop-types.invariant
    ∙ list_stopped p c.loop-types.ahead.items c.pop.new.self.items c.push.new.self.items c.in-Some.types c.in-Some-first_unlisted.rest c.in-Some-first_unlisted.next
    c.in-Some.ensures.items c.in_ok-push.ensures.items c.in-Some-first_unlisted.ensures

pub loop-types-preserved : goal.loop-types-preserved
loop-types-preserved c =
    let p = λ (t : SymbolId). sorted.contains symbol_order c.args.listed.now t in
    list_passed p c.loop-types.ahead.items c.pop.new.self.items c.in-Some.types c.in-Some.ensures.items c.in_default-first_unlisted.ensures ∙ c.loop-types.invariant
