use Rattle.std.proofs.Common.{◌≡◌, ◌-◌, length}
use Rattle.std.specs.BTreeSet as sorted
use Rattle.hack_types.specs.declared.ids.SymbolId.{SymbolId}
use Rattle.hack_fold.specs.inside.Walking.{ahead_of}
use Rattle.hack_fold.specs.Line.{is_in}
use Rattle.hack_decls.specs.PlainMap.{symbol_order}
use Rattle.hack_fold.specs.ShallowMap.{shallows_of}
use Rattle.hack_fold.proofs.WalkLemmas.{Stands}
use Rattle.hack_fold.proofs.walk.walk.Given as goal

abbrev pub invariant-loop-next : goal.invariant-loop-next
invariant-loop-next l = record {
  stands : Stands (shallows_of l.map) l.s l.names.items (ahead_of l.ahead.items) l.next;
  same : (t : SymbolId) → sorted.contains symbol_order l.listed t ≡ is_in l.names.items t;
}

abbrev pub decreases-loop-next : goal.decreases-loop-next
decreases-loop-next l = 257 - length l.names.items
