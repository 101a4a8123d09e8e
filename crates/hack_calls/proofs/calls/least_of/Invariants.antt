use Rattle.std.proofs.Common.{◌≡◌, take}
use Rattle.hack_rules.specs.Calls.{least_of}
use Rattle.hack_calls.proofs.calls.least_of.Given as goal

abbrev pub invariant-loop-index : goal.invariant-loop-index
invariant-loop-index l = l.least ≡ least_of 0 (take l.index l.params)
