use Rattle.std.proofs.Common.{◌<◌, length, sym, subst, arith}
use Rattle.hack_parts.specs.ExprIn.{EntryIn}
use Rattle.hack_values.proofs.Entries.{dict_walks, entries_next, none_yet}
use Rattle.hack_values.proofs.containers.dict.Goals as goal

pub loop-entry-init : goal.loop-entry-init
loop-entry-init g c = rw (c.new-keys.ensures, c.new-values.ensures) (none_yet _ _)

pub loop-entry-preserved : goal.loop-entry-preserved
loop-entry-preserved g c =
    let es = c.args.entries.now in let i = c.loop-entry.entry-index in let e = c.entry-item.result in
    let lt : i < length es = c.loop-entry-test.true in
    rw (c.in_ok-push.ensures.keys, c.in_ok-push.ensures.values)
    (entries_next es i e lt c.entry-item.is c.loop-entry.invariant c.in_ok-types.ensures (λ symbols n. subst (EntryIn c.args.setting.now.scope.now symbols) (sym c.entry-item.is) (n i e lt)))

pub returns : goal.returns
returns g c =
    let es = c.args.entries.now in let i = c.loop-entry.entry-index in
    dict_walks es i _ _ _ (omega arith) c.in_ok-dict_of.ensures c.as_slice.ensures c.as_slice-2.ensures c.loop-entry.invariant
