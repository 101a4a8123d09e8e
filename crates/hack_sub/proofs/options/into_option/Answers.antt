use Rattle.hack_sub.specs.NamesOf.{in_option}
use Rattle.hack_sub.proofs.Tells.{told_under}
use Rattle.hack_sub.specs.IsBelow.{is_below}
use Rattle.hack_sub.specs.Parts.{option_inside}
use Rattle.hack_sub.proofs.options.into_option.Goals as goal

pub returns-in-Some : goal.returns-in-Some
returns-in-Some g c = let T = c.args.upper.now in let U = c.in-Some.inside.now in
    told_under (λ map U. is_below map c.args.level.now.scope.now c.args.level.now.height c.args.lower.now U) (option_inside T) U c.in-Some.ensures c.holds.result c.holds.ensures
    (λ symbols n. record { around = n.around; lower = n.lower; upper = in_option symbols T U c.in-Some.ensures n.upper })
