use Rattle.std.proofs.Common.{◌≡◌, take, false}
use Rattle.std.specs.List.{list_any}
use Rattle.hack_fold.specs.Line.{names_symbol}
use Rattle.hack_fold.proofs.line.any_names.Given as goal

abbrev pub invariant-loop-ty : goal.invariant-loop-ty
invariant-loop-ty l = list_any (names_symbol l.s) (take l.ty-index l.ty-items) ≡ false
