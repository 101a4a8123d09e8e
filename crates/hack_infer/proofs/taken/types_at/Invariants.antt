use Rattle.std.proofs.Common.{◌≡◌, take}
use Rattle.hack_infer.specs.Matching.{types_at}
use Rattle.hack_infer.proofs.taken.types_at.Given as goal

abbrev pub invariant-loop-took : goal.invariant-loop-took
invariant-loop-took l = l.types.items ≡ types_at (take l.took-index l.found) l.position
