use Rattle.std.proofs.Common.{◌≡◌, ◌++◌, map, drop}
use Rattle.std.specs.List.{flat_map}
use Rattle.hack_shallow.specs.Scopes.{scope_of}
use Rattle.hack_shallow.specs.Resolved.{parent_of}
use Rattle.hack_shallow.specs.Shallow.{used}
use Rattle.hack_shallow.proofs.shallow.uses.Given as goal

abbrev pub invariant-loop-member : goal.invariant-loop-member
invariant-loop-member l =
    l.types ++ map (parent_of (scope_of l.scope)) (flat_map used (drop l.member-index l.members)) ≡ map (parent_of (scope_of l.scope)) (flat_map used l.members)
