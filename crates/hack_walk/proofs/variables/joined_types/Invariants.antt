use Rattle.std.proofs.Common.{◌≡◌, ◌++◌, ℕ}
use Rattle.hack_rules.specs.Variables.{Variables, joined, type_in}
use Rattle.hack_walk.proofs.Environments.{Above}
use Rattle.hack_walk.proofs.variables.joined_types.Given as goal

abbrev pub invariant-loop-name : goal.invariant-loop-name
invariant-loop-name l =
    (done : Variables) × (l.initial.name-iterator ≡ done ++ l.name-iterator) × (l.both.entries ≡ joined done l.initial.right.entries)
    × ((name : ℕ) → Above name done → type_in l.right.entries name ≡ type_in l.initial.right.entries name)
