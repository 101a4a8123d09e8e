use Rattle.std.proofs.Common.{◌≡◌, ◌++◌, drop}
use Rattle.std.specs.List.{flat_map}
use Rattle.hack_shallow.specs.Scopes.{scope_of}
use Rattle.hack_shallow.specs.Signatures.{upper_bound, lower_bound}
use Rattle.hack_shallow.proofs.signature.type_param.Given as goal

abbrev pub invariant-loop-bound : goal.invariant-loop-bound
invariant-loop-bound l = record {
  upper : l.upper ++ flat_map (upper_bound (scope_of l.scope)) (drop l.bound-index l.bound-items) ≡ flat_map (upper_bound (scope_of l.scope)) l.bound-items;
  lower : l.lower ++ flat_map (lower_bound (scope_of l.scope)) (drop l.bound-index l.bound-items) ≡ flat_map (lower_bound (scope_of l.scope)) l.bound-items;
}
