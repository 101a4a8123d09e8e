use Rattle.std.proofs.Common.{refl}
use Rattle.hack_parts.specs.PartLaws.{value_walks}
use Rattle.hack_parts.specs.PartNames.{in_field_value}
use Rattle.hack_rules.specs.Expressions.{meaning_of}
use Rattle.hack_walk.specs.WalkLaws.{of_step, walks_next}
use Rattle.hack_values.specs.inside.Rows.{field_type}
use Rattle.hack_values.proofs.shapes.field_type.Goals as goal

pub returns : goal.returns
unfolding field_type
returns g c =
    let field = c.args.field.now in
    walks_next (meaning_of field.value).walk _ (of_step _ c.in_ok-expect_new.ensures) (value_walks c.requires.field refl c.value.ensures)
    (λ symbols n. tt) (λ symbols n g. in_field_value c.args.setting.now.scope.now symbols field n) (λ symbols b n g h. h)
