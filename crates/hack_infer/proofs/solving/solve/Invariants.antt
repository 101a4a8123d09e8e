use Rattle.std.proofs.Common.{◌≡◌, map, take}
use Rattle.hack_infer.specs.Solving.{solved_by}
use Rattle.hack_infer.proofs.solving.solve.Given as goal

abbrev pub invariant-loop-types : goal.invariant-loop-types
invariant-loop-types l = l.solved.items ≡ map solved_by (map (λ types. types.items) (take l.types-index l.found))
