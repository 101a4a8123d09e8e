use Rattle.std.proofs.Common.{◌≡◌, map}
use Rattle.std.specs.List.{range_with_len}
use Rattle.hack_infer.specs.Matching.{types_at}
use Rattle.hack_infer.proofs.taken.lists.Given as goal

abbrev pub invariant-loop-position : goal.invariant-loop-position
invariant-loop-position l = map (λ types. types.items) l.all.items ≡ map (types_at l.found) (range_with_len 0 l.position)
