use Rattle.std.proofs.Common.{◌≡◌, ◌++◌, map, drop}
use Rattle.hack_shallow.specs.Scopes.{scope_of}
use Rattle.hack_shallow.specs.Resolved.{parent_of}
use Rattle.hack_shallow.proofs.shallow.parents.Given as goal

abbrev pub invariant-loop-class : goal.invariant-loop-class
invariant-loop-class l = l.types ++ map (parent_of (scope_of l.scope)) (drop l.class-index l.classes) ≡ map (parent_of (scope_of l.scope)) l.classes
