use Rattle.std.proofs.Common.{◌≡◌, length}
use Rattle.std.specs.BTreeSet as sorted
use Rattle.hack_fold.specs.inside.Walking.{ahead_of}
use Rattle.hack_fold.specs.Line.{unlisted}
use Rattle.hack_decls.specs.PlainMap.{symbol_order}
use Rattle.hack_fold.proofs.walk.next_unlisted.Given as goal

abbrev pub invariant-loop-types : goal.invariant-loop-types
invariant-loop-types l =
    unlisted (λ t. sorted.contains symbol_order l.listed t) (ahead_of l.ahead.items) ≡ unlisted (λ t. sorted.contains symbol_order l.listed t) (ahead_of l.initial.ahead.items)

abbrev pub decreases-loop-types : goal.decreases-loop-types
decreases-loop-types l = length l.ahead.items
