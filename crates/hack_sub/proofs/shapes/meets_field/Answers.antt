use Rattle.std.proofs.Common.{◌∙◌, Option, ap}
use Rattle.hack_types.specs.declared.fields.Field.{Field}
use Rattle.hack_types.specs.declared.hack_type.HackType.{HackType}
use Rattle.hack_decls.specs.DeclState.{Map}
use Rattle.hack_sub.specs.NamesOf.{in_field}
use Rattle.hack_sub.proofs.Tells.{answered, told}
use Rattle.hack_sub.specs.IsBelow.{is_below, meets_by, meets_field}
use Rattle.hack_sub.proofs.shapes.meets_field.Goals as goal

pub returns-in-None : goal.returns-in-None
returns-in-None g c =
    let test = λ (map : Map). is_below map c.args.level.now.scope.now c.args.level.now.height in
    answered _ c.may_lack.result (λ map. meets_field (test map) c.args.further c.args.fields.now c.args.field.now)
    (λ map. c.may_lack.ensures ∙ ap (λ (o : Option (Field HackType)). meets_by (test map) c.args.further c.args.field.now o) c.in-None.ensures)

pub returns-in-Some : goal.returns-in-Some
returns-in-Some g c =
    let test = λ (map : Map). is_below map c.args.level.now.scope.now c.args.level.now.height in
    let own = c.in-Some.own.now in
    told (λ map. meets_field (test map) c.args.further c.args.fields.now c.args.field.now) c.field_below.result c.field_below.ensures
    (λ map. ap (λ (o : Option (Field HackType)). meets_by (test map) c.args.further c.args.field.now o) c.in-Some.ensures)
    (λ symbols n. record { around = n.around; lower = in_field symbols c.args.field.now.key c.args.fields.now own c.in-Some.ensures n.fields; upper = n.other })
