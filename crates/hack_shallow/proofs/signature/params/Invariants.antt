use Rattle.std.proofs.Common.{◌≡◌, ◌++◌, map, drop}
use Rattle.hack_shallow.specs.Scopes.{scope_of}
use Rattle.hack_shallow.specs.Signatures.{param}
use Rattle.hack_shallow.proofs.signature.params.Given as goal

abbrev pub invariant-loop-parameter : goal.invariant-loop-parameter
invariant-loop-parameter l = l.found ++ map (param (scope_of l.scope)) (drop l.parameter-index l.parameters) ≡ map (param (scope_of l.scope)) l.parameters
