use Rattle.std.proofs.Common.{◌∙◌, ◌&&◌, sym, ap}
use Rattle.hack_sub.proofs.Tells.{told}
use Rattle.hack_sub.specs.IsBelow.{class_type_small, from_this, is_below, some_and}
use Rattle.hack_sub.specs.Tops.{is_this}
use Rattle.hack_sub.proofs.bounds.from_this.Goals as goal

pub returns-then-is_this : goal.returns-then-is_this
returns-then-is_this g c =
    let S = c.args.lower.now in let T = c.args.upper.now in
    told (λ map. from_this c.args.level.now.scope.now (is_below map c.args.level.now.scope.now c.args.level.now.height) S T) c.class_below.result c.class_below.ensures
    (λ map. ap (λ b. b && some_and (class_type_small c.args.level.now.scope.now) (λ U. is_below map c.args.level.now.scope.now c.args.level.now.height U T))
    (sym c.if-is_this.true ∙ c.is_this.ensures ∙ ap is_this c.top_of.ensures))
    (λ symbols n. record { around = n.around; upper = n.upper })
