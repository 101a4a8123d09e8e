use Rattle.std.proofs.Common.{◌≡◌, map, take}
use Rattle.hack_types.proofs.UnionLemmas.{read}
use Rattle.hack_types.proofs.type_union.copies.Given as goal

abbrev pub invariant-loop-ty : goal.invariant-loop-ty
invariant-loop-ty l = l.copied.items ≡ take l.ty-index (map read l.types)
