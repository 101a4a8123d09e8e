use Rattle.std.proofs.Common.{◌≡◌, ◌++◌, map, drop}
use Rattle.hack_shallow.specs.Scopes.{scope_of}
use Rattle.hack_shallow.specs.Signatures.{type_param}
use Rattle.hack_shallow.proofs.signature.type_params.Given as goal

abbrev pub invariant-loop-parameter : goal.invariant-loop-parameter
invariant-loop-parameter l = l.found ++ map (type_param (scope_of l.scope)) (drop l.parameter-index l.parameters) ≡ map (type_param (scope_of l.scope)) l.parameters
