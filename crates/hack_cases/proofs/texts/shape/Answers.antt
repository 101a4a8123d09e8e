use Rattle.std.proofs.Common.{sym, subst}
use Rattle.hack_types.specs.Rising.{FieldsRise}
use Rattle.hack_types.specs.declared.hack_type.HackType.{HackType}
use Rattle.hack_cases.proofs.FieldsRise.{no_fields_rise}
use Rattle.hack_cases.proofs.texts.shape.Goals as goal

pub from_vec-fields-requires : goal.from_vec-fields-requires
from_vec-fields-requires c = subst FieldsRise (sym c.new.ensures.items) (no_fields_rise HackType)
