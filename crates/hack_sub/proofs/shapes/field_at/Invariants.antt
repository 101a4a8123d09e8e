use Rattle.std.proofs.Common.{◌≡◌, drop}
use Rattle.hack_sub.specs.Rules.{field_at}
use Rattle.hack_sub.proofs.shapes.field_at.Given as goal

abbrev pub invariant-loop-field : goal.invariant-loop-field
invariant-loop-field l = field_at (drop l.field-index l.fields) l.key ≡ field_at l.fields l.key
