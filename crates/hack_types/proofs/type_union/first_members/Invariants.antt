use Rattle.std.proofs.Common.{◌≡◌, map, take}
use Rattle.hack_types.specs.UnionOf.{once}
use Rattle.hack_types.proofs.UnionLemmas.{read}
use Rattle.hack_types.proofs.type_union.first_members.Given as goal

abbrev pub invariant-loop-part : goal.invariant-loop-part
invariant-loop-part l = map read l.members.items ≡ take 9 (once (take l.part-index (map read l.parts)))
