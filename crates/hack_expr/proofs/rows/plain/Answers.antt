use Rattle.std.proofs.Common.{refl}
use Rattle.hack_parts.specs.PartLaws.{value_walks}
use Rattle.hack_expr.proofs.Here.{both_behind}
use Rattle.hack_expr.proofs.rows.plain.Goals as goal

pub returns : goal.returns
returns g c = both_behind _ (value_walks c.requires refl c.in_ok-ty.ensures) c.in_ok-branches.ensures.when_true c.in_ok-branches.ensures.when_false
