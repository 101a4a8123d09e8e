use Rattle.std.proofs.Common.{◌≡◌, ◌++◌, map, take, flat_map}
use Rattle.hack_types.specs.UnionOf.{parts_of}
use Rattle.hack_types.proofs.UnionLemmas.{read}
use Rattle.hack_types.proofs.type_union.all_parts.Given as goal

abbrev pub invariant-loop-part : goal.invariant-loop-part
invariant-loop-part l = map read l.parts.items ≡ map read l.initial.parts.items ++ take l.part-index l.part-items

abbrev pub invariant-loop-ty : goal.invariant-loop-ty
invariant-loop-ty l = map read l.parts.items ≡ flat_map parts_of (take l.ty-index l.types)
