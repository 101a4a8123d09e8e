use Rattle.std.proofs.Common.{◌≡◌, map, take}
use Rattle.hack_types.specs.formers.fields.Fields.{on_type}
use Rattle.hack_rules.specs.Lifting.{lifted}
use Rattle.hack_new.proofs.lifting.+lift.Given as goal

abbrev pub invariant-lifted_all-loop-ty : goal.invariant-lifted_all-loop-ty
invariant-lifted_all-loop-ty l = l.all.items ≡ map (lifted l.count) (take l.ty-index l.ty-items)

abbrev pub invariant-lifted_fields-loop-field : goal.invariant-lifted_fields-loop-field
invariant-lifted_fields-loop-field l = l.all.items ≡ map (on_type (lifted l.count)) (take l.field-index l.field-items)
