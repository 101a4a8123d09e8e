use Rattle.std.proofs.Common.{◌≡◌, map, take}
use Rattle.hack_calls.proofs.matching.given_types.Given as goal

abbrev pub invariant-loop-argument : goal.invariant-loop-argument
invariant-loop-argument l = l.types.items ≡ map (λ a. a.ty) (take l.argument-index l.given)
