use Rattle.std.proofs.Common.{◌≡◌, ◌==◌, drop}
use Rattle.std.specs.List.{find}
use Rattle.hack_targets.proofs.fields.field_of.Given as goal

abbrev pub invariant-loop-field : goal.invariant-loop-field
invariant-loop-field l = find (λ field. field.key == l.key) (drop l.field-index l.fields) ≡ find (λ field. field.key == l.key) l.fields
