use Rattle.std.proofs.Common.{◌≡◌, ◌++◌, map}
use Rattle.hack_rules.specs.Variables.{Variables}
use Rattle.hack_walk.proofs.Environments.{wide}
use Rattle.hack_walk.proofs.widen.widened_types.Given as goal

abbrev pub invariant-loop-name : goal.invariant-loop-name
invariant-loop-name l =
    (done : Variables) × (l.initial.name-iterator ≡ done ++ l.name-iterator) × (l.left.entries ≡ map (wide l.before) done)
