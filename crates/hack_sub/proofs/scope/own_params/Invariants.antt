use Rattle.std.proofs.Common.{◌≡◌, ◌++◌, drop}
use Rattle.hack_sub.specs.Scopes.{own_params}
use Rattle.hack_sub.proofs.scope.own_params.Given as goal

abbrev pub invariant-loop-index : goal.invariant-loop-index
invariant-loop-index l = l.own.items ++ own_params l.index (drop l.index l.params) ≡ own_params 0 l.params
