use Rattle.std.proofs.Common.{◌∙◌, ◌&&◌, ◌||◌, not, false, sym, ap}
use Rattle.hack_decls.specs.DeclState.{Map}
use Rattle.hack_sub.proofs.Tells.{answered, told}
use Rattle.hack_sub.specs.IsBelow.{is_below}
use Rattle.hack_sub.proofs.shapes.field_below.Goals as goal

pub returns-then-not-may_stand : goal.returns-then-not-may_stand
returns-then-not-may_stand g c =
    let own = c.args.own.now in let field = c.args.field.now in
    let test = λ (map : Map). is_below map c.args.level.now.scope.now c.args.level.now.height own.ty field.ty in
    answered _ false (λ map. (not own.optional || field.optional) && test map)
    (λ map. ap (λ b. b && test map) (sym c.if-not-may_stand.true ∙ c.may_stand.ensures))

pub returns : goal.returns
returns g c =
    let own = c.args.own.now in let field = c.args.field.now in
    let test = λ (map : Map). is_below map c.args.level.now.scope.now c.args.level.now.height own.ty field.ty in
    told (λ map. (not own.optional || field.optional) && test map) c.holds.result c.holds.ensures
    (λ map. ap (λ b. b && test map) (sym c.if-not-may_stand.false ∙ c.may_stand.ensures))
    (λ symbols n. n)
