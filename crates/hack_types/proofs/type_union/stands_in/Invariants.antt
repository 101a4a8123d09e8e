use Rattle.std.proofs.Common.{◌≡◌, take, false, map}
use Rattle.std.specs.List.{list_any}
use Rattle.hack_types.specs.SameType.{same_type}
use Rattle.hack_types.proofs.UnionLemmas.{read}
use Rattle.hack_types.proofs.type_union.stands_in.Given as goal

abbrev pub invariant-loop-other : goal.invariant-loop-other
invariant-loop-other l = list_any (same_type l.ty) (take l.other-index (map read l.types)) ≡ false
