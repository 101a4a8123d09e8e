use Rattle.std.proofs.Common.{◌≡◌, ◌∙◌, Some, sym}
use Rattle.hack_sub.specs.NamesOf.{in_keyed}
use Rattle.hack_sub.proofs.Tells.{told_under}
use Rattle.hack_sub.specs.IsBelow.{is_below}
use Rattle.hack_sub.specs.Parts.{as_keyed}
use Rattle.hack_sub.proofs.containers.keyed_below.Goals as goal

pub returns-in-Some : goal.returns-in-Some
returns-in-Some g c = let S = c.args.lower.now in let T = c.args.upper.now in let U = c.in-Some.keyed in
    let is : Some U ≡ as_keyed S = sym c.in-Some.is ∙ c.in_ok-keyed.ensures in
    told_under (λ map U. is_below map c.args.level.now.scope.now c.args.level.now.height U T) (as_keyed S) U is c.holds.result c.holds.ensures
    (λ symbols n. record { around = n.around; lower = in_keyed symbols S U is n.around.keyed n.lower; upper = n.upper })
