use Rattle.std.proofs.Common.{◌+◌, ◌≤◌, sum_by, take}
use Rattle.hack_types.specs.Substituted.{substitute}
use Rattle.hack_types.specs.TypeNodes.{nodes}
use Rattle.hack_types.proofs.+least.Given as goal

abbrev pub invariant-type_substitute::take_least_all-loop-ty : goal.invariant-type_substitute::take_least_all-loop-ty
invariant-type_substitute::take_least_all-loop-ty l = l.left ≤ l.rest + sum_by (λ ty. nodes (substitute l.arguments ty)) (take l.ty-index l.ty-items)

abbrev pub invariant-type_substitute::take_least_fields-loop-field : goal.invariant-type_substitute::take_least_fields-loop-field
invariant-type_substitute::take_least_fields-loop-field l = l.left ≤ l.rest + sum_by (λ field. nodes (substitute l.arguments field.ty)) (take l.field-index l.field-items)
