use Rattle.std.proofs.Common.{◌≡◌, ◌∙◌, Some, sym}
use Rattle.hack_sub.proofs.NamesScope.{in_class_type}
use Rattle.hack_sub.proofs.Tells.{told_under}
use Rattle.hack_sub.specs.IsBelow.{class_type_small, is_below}
use Rattle.hack_sub.proofs.bounds.class_below.Goals as goal

pub returns-in-Some : goal.returns-in-Some
returns-in-Some g c =
    let T = c.args.upper.now in let U = c.in-Some.class in
    let is : Some U ≡ class_type_small c.args.level.now.scope.now = sym c.in-Some.is ∙ c.in_ok-class.ensures in
    told_under (λ map U. is_below map c.args.level.now.scope.now c.args.level.now.height U T) (class_type_small c.args.level.now.scope.now) U is c.holds.result c.holds.ensures
    (λ symbols n. record { around = n.around; lower = in_class_type symbols c.args.level.now.scope.now n.around.scoped U is; upper = n.upper })
