use Rattle.std.specs.List.{list_any}
use Rattle.hack_sub.specs.NamesOf.{in_union}
use Rattle.hack_sub.proofs.Tells.{told_under}
use Rattle.hack_sub.specs.IsBelow.{is_below}
use Rattle.hack_sub.specs.Parts.{union_members}
use Rattle.hack_sub.proofs.options.into_union.Goals as goal

pub returns-in-Some : goal.returns-in-Some
returns-in-Some g c = let S = c.args.lower.now in let T = c.args.upper.now in let Us = c.in-Some.members.now in
    told_under (λ map Us. list_any (λ U. is_below map c.args.level.now.scope.now c.args.level.now.height S U) Us) (union_members T) Us c.in-Some.ensures c.below_any.result c.below_any.ensures
    (λ symbols n. record { around = n.around; many = in_union symbols T Us c.in-Some.ensures n.upper; other = n.lower })
