use Rattle.std.proofs.Common.{◌∙◌, ◌&&◌, ◌||◌, not, sym, ap}
use Rattle.std.specs.List.{list_all}
use Rattle.hack_decls.specs.DeclState.{Map}
use Rattle.hack_sub.proofs.Tells.{told}
use Rattle.hack_sub.specs.IsBelow.{covers, is_below, meets_field}
use Rattle.hack_sub.proofs.shapes.meets.Goals as goal

pub returns-then-is_covered : goal.returns-then-is_covered
returns-then-is_covered g c =
    let fields = c.args.fields.now in let others = c.args.others.now in
    let test = λ (map : Map). list_all (meets_field (is_below map c.args.level.now.scope.now c.args.level.now.height) c.args.further fields) others in
    told (λ map. (c.args.takes_more || (not c.args.further && covers others fields)) && test map) c.meets_all.result c.meets_all.ensures
    (λ map. ap (λ b. b && test map) (sym c.if-is_covered.true ∙ c.is_covered.ensures))
    (λ symbols n. n)
