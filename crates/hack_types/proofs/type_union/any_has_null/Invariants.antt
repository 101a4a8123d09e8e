use Rattle.std.proofs.Common.{◌≡◌, take, false}
use Rattle.std.specs.List.{list_any}
use Rattle.hack_types.specs.UnionOf.{has_null}
use Rattle.hack_types.proofs.type_union.any_has_null.Given as goal

abbrev pub invariant-loop-ty : goal.invariant-loop-ty
invariant-loop-ty l = list_any has_null (take l.ty-index l.types) ≡ false
