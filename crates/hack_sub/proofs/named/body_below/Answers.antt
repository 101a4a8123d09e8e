use Rattle.std.proofs.Common.{◌≡◌, ◌∙◌, Some, sym, ap}
use Rattle.hack_sub.specs.NamesOf.{given_in}
use Rattle.hack_sub.proofs.Tells.{gone_on}
use Rattle.hack_sub.specs.IsBelow.{expanded_small, is_below, some_and}
use Rattle.hack_sub.proofs.named.body_below.Goals as goal

pub returns-in-Some : goal.returns-in-Some
returns-in-Some g c = let S = c.args.lower.now in let T = c.args.upper.now in let U = c.in-Some.body in
    let is : c.in_ok-body.body ≡ Some U = c.in-Some.is in
    gone_on (λ map. some_and (expanded_small map S) (λ U. is_below map c.args.level.now.scope.now c.args.level.now.height U T)) c.holds.result c.in_ok-body.ensures c.holds.ensures
    (λ map e. ap (λ o. some_and o (λ U. is_below map c.args.level.now.scope.now c.args.level.now.height U T)) (sym is ∙ e))
    (λ symbols n. n.lower)
    (λ symbols n given. record { around = n.around; lower = given_in symbols is given; upper = n.upper })
