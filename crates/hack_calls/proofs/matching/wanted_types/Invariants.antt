use Rattle.std.proofs.Common.{◌≡◌, map, take}
use Rattle.hack_calls.proofs.matching.wanted_types.Given as goal

abbrev pub invariant-loop-param : goal.invariant-loop-param
invariant-loop-param l = l.types.items ≡ map (λ param. param.ty) (take l.param-index l.params)
