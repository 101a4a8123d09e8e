use Rattle.std.proofs.Common.{◌≡◌, [], take}
use Rattle.hack_shallow.specs.Resolved.{with_fields}
use Rattle.hack_targets.proofs.made.keyed.Given as goal

abbrev pub invariant-loop-field : goal.invariant-loop-field
invariant-loop-field l = l.by_key.entries ≡ with_fields [] (take l.field-index l.field-items)
