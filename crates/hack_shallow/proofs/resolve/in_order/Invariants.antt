use Rattle.std.proofs.Common.{◌≡◌}
use Rattle.hack_shallow.specs.Resolved.{in_order}
use Rattle.hack_shallow.proofs.resolve.in_order.Given as goal

abbrev pub invariant-loop-key : goal.invariant-loop-key
invariant-loop-key l = l.fields.items ≡ in_order l.yielded
