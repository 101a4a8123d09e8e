use Rattle.std.proofs.Common.{◌≡◌, ◌+◌, sum_by, take}
use Rattle.hack_types.specs.TypeNodes.{nodes}
use Rattle.hack_types.proofs.+nodes.Given as goal

abbrev pub invariant-type_nodes::take_all-loop-ty : goal.invariant-type_nodes::take_all-loop-ty
invariant-type_nodes::take_all-loop-ty l = l.rest + sum_by nodes (take l.ty-index l.ty-items) ≡ l.left

abbrev pub invariant-type_nodes::take_fields-loop-field : goal.invariant-type_nodes::take_fields-loop-field
invariant-type_nodes::take_fields-loop-field l = l.rest + sum_by (λ field. nodes field.ty) (take l.field-index l.field-items) ≡ l.left
