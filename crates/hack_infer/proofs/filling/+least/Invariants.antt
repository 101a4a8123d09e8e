use Rattle.std.proofs.Common.{◌+◌, ◌≤◌, sum_by, take}
use Rattle.hack_types.specs.TypeNodes.{nodes}
use Rattle.hack_infer.specs.Filling.{filled, filling_of}
use Rattle.hack_infer.proofs.filling.+least.Given as goal

abbrev pub invariant-take_least_all-loop-ty : goal.invariant-take_least_all-loop-ty
invariant-take_least_all-loop-ty l = l.left ≤ l.rest + sum_by (λ ty. nodes (filled (filling_of l.filling) ty)) (take l.ty-index l.ty-items)

abbrev pub invariant-take_least_fields-loop-field : goal.invariant-take_least_fields-loop-field
invariant-take_least_fields-loop-field l = l.left ≤ l.rest + sum_by (λ field. nodes (filled (filling_of l.filling) field.ty)) (take l.field-index l.field-items)
