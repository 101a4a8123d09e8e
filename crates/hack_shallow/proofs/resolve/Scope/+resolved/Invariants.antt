use Rattle.std.proofs.Common.{◌≡◌, ◌++◌, [], map, drop}
use Rattle.hack_shallow.specs.Scopes.{scope_of}
use Rattle.hack_shallow.specs.Resolved.{resolved, resolved_field, with_fields}
use Rattle.hack_shallow.proofs.resolve.Scope.+resolved.Given as goal

abbrev pub invariant-arguments-loop-argument : goal.invariant-arguments-loop-argument
invariant-arguments-loop-argument l = l.types ++ map (resolved (scope_of l.self)) (drop l.argument-index l.written) ≡ map (resolved (scope_of l.self)) l.written

abbrev pub invariant-last_fields-loop-field : goal.invariant-last_fields-loop-field
invariant-last_fields-loop-field l = with_fields l.by_key.entries (map (resolved_field (scope_of l.self)) (drop l.field-index l.written)) ≡ with_fields [] (map (resolved_field (scope_of l.self)) l.written)
