use Rattle.std.proofs.Common.{◌≡◌, ◌++◌}
use Rattle.hack_rules.specs.Variables.{Variables}
use Rattle.hack_walk.proofs.variables.copy_types.Given as goal

abbrev pub invariant-loop-name : goal.invariant-loop-name
invariant-loop-name l = (done : Variables) × (l.types.entries ≡ done ++ l.name-iterator) × (l.copies.entries ≡ done)
