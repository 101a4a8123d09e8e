use Rattle.std.proofs.Common.{◌≡◌, ◌++◌, map, drop}
use Rattle.hack_written.proofs.parameters.names_of.Given as goal

abbrev pub invariant-loop-param : goal.invariant-loop-param
invariant-loop-param l = l.names.items ++ map (λ p. p.name) (drop l.param-index l.params) ≡ map (λ p. p.name) l.params
