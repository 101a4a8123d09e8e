use Rattle.std.proofs.Common.{◌≡◌, ◌++◌, map, drop}
use Rattle.hack_shallow.proofs.scope.names_of.Given as goal

abbrev pub invariant-loop-parameter : goal.invariant-loop-parameter
invariant-loop-parameter l = l.names.items ++ map (λ p. p.name.name) (drop l.parameter-index l.list) ≡ map (λ p. p.name.name) l.list
