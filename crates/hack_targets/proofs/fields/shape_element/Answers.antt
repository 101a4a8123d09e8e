use Rattle.std.proofs.Common.{◌∙◌, ℕ, Option, ap, sym}
use Rattle.hack_rules.specs.Indices.{field_or, shape_element}
use Rattle.hack_rules.specs.Meanings.{Index}
use Rattle.hack_types.specs.declared.fields.Field.{Field}
use Rattle.hack_types.specs.declared.hack_type.HackType.{HackType}
use Rattle.hack_targets.proofs.Found.{in_found}
use Rattle.hack_targets.proofs.Stepping.{steps_more, steps_same}
use Rattle.hack_targets.proofs.fields.shape_element.Goals as goal

pub returns-in-Some : goal.returns-in-Some
returns-in-Some c =
    let fields = c.args.fields.now in let key = c.in-Some.key in let at = c.args.at in let left = c.args.left in
    let own = ap (λ (index : Index). index.key) (sym c.index.view_is) ∙ c.in-Some.is in
    steps_same _ c.field_or.result
    (ap (λ (k : Option ℕ). shape_element at left c.args.head.now fields k) own ∙ ap (λ (found : Option (Field HackType)). field_or at left key found) (sym c.field_of-found.ensures))
    (steps_more c.field_or.result c.field_or.ensures (λ symbols n. in_found symbols key fields _ c.field_of-found.ensures n))
