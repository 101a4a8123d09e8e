use Rattle.std.proofs.Common.{◌≡◌, ◌+◌, ◌*◌, sum_by, take}
use Rattle.hack_types.specs.TypeNodes.{nodes}
use Rattle.hack_types.proofs.+same.Given as goal

abbrev pub decreases-hack_type::HackType::same : goal.decreases-hack_type::HackType::same
decreases-hack_type::HackType::same l = 3 * nodes l.self.now

abbrev pub decreases-type_same::same_all : goal.decreases-type_same::same_all
decreases-type_same::same_all l = 3 * sum_by nodes l.types.now + 1

abbrev pub decreases-type_same::same_fields : goal.decreases-type_same::same_fields
decreases-type_same::same_fields l = 3 * sum_by (λ field. nodes field.ty) l.fields.now + 2

abbrev pub decreases-type_same::same_field : goal.decreases-type_same::same_field
decreases-type_same::same_field l = 3 * nodes l.field.now.ty + 1

abbrev pub invariant-type_same::same_all-loop-index : goal.invariant-type_same::same_all-loop-index
invariant-type_same::same_all-loop-index l = take l.index l.types ≡ take l.index l.others

abbrev pub invariant-type_same::same_fields-loop-index : goal.invariant-type_same::same_fields-loop-index
invariant-type_same::same_fields-loop-index l = take l.index l.fields ≡ take l.index l.others
