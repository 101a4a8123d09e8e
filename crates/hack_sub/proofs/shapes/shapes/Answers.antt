use Rattle.std.proofs.Common.{◌&&◌, ◌||◌, ◌∙◌, Bool, not, List, ap}
use Rattle.std.specs.List.{list_all}
use Rattle.hack_types.specs.declared.fields.Field.{Field}
use Rattle.hack_types.specs.declared.hack_type.HackType.{HackType}
use Rattle.hack_decls.specs.DeclState.{Map}
use Rattle.hack_sub.specs.NamesOf.{in_shape}
use Rattle.hack_sub.proofs.Tells.{told, told_under}
use Rattle.hack_sub.specs.IsBelow.{Test, covers, is_below, meets_field, some_and}
use Rattle.hack_sub.specs.Parts.{is_open, shape_fields}
use Rattle.hack_sub.proofs.shapes.shapes.Goals as goal

-- a shape with these fields, and further ones or not, meets one with the others, which takes more or not
abbrev meet : Test → Bool → Bool → List (Field HackType) → List (Field HackType) → Bool
meet r further takes_more fields others = (takes_more || (not further && covers others fields)) && list_all (meets_field r further fields) others

pub returns-in-Some-Some : goal.returns-in-Some-Some
returns-in-Some-Some g c =
    let S = c.args.lower.now in let T = c.args.upper.now in
    let fields = c.in-Some-Some.fields.now in let others = c.in-Some-Some.others.now in
    told_under (λ (map : Map) (own : List (Field HackType)). some_and (shape_fields T) (λ others. meet (is_below map c.args.level.now.scope.now c.args.level.now.height) (is_open S) (is_open T) own others)) (shape_fields S) fields c.in-Some-Some.ensures c.meets.result
    (told_under (λ (map : Map) (others : List (Field HackType)). meet (is_below map c.args.level.now.scope.now c.args.level.now.height) (is_open S) (is_open T) fields others) (shape_fields T) others c.in-Some-Some.ensures' c.meets.result
    (told (λ map. meet (is_below map c.args.level.now.scope.now c.args.level.now.height) (is_open S) (is_open T) fields others) c.meets.result c.meets.ensures
    (λ map. ap (λ further. meet (is_below map c.args.level.now.scope.now c.args.level.now.height) further c.is_open-in-Some-Some.result fields others) c.is_open.ensures ∙ ap (λ takes_more. meet (is_below map c.args.level.now.scope.now c.args.level.now.height) (is_open S) takes_more fields others) c.is_open-in-Some-Some.ensures)
    (λ symbols n. n))
    (λ symbols n. n))
    (λ symbols n. record {
      around = n.around;
      fields = in_shape symbols S fields c.in-Some-Some.ensures n.lower;
      others = in_shape symbols T others c.in-Some-Some.ensures' n.upper;
    })
