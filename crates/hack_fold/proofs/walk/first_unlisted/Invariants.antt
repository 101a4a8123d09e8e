use Rattle.std.proofs.Common.{◌≡◌, length}
use Rattle.std.specs.BTreeSet as sorted
use Rattle.hack_fold.specs.Line.{type_symbols, unlisted}
use Rattle.hack_decls.specs.PlainMap.{symbol_order}
use Rattle.hack_fold.proofs.walk.first_unlisted.Given as goal

abbrev pub invariant-loop-ty : goal.invariant-loop-ty
invariant-loop-ty l =
    unlisted (λ t. sorted.contains symbol_order l.listed t) (type_symbols l.rest) ≡ unlisted (λ t. sorted.contains symbol_order l.listed t) (type_symbols l.types)

abbrev pub decreases-loop-ty : goal.decreases-loop-ty
decreases-loop-ty l = length l.rest
