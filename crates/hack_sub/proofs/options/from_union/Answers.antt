use Rattle.std.specs.List.{list_all}
use Rattle.hack_sub.specs.NamesOf.{in_union}
use Rattle.hack_sub.proofs.Tells.{told_under}
use Rattle.hack_sub.specs.IsBelow.{is_below}
use Rattle.hack_sub.specs.Parts.{union_members}
use Rattle.hack_sub.proofs.options.from_union.Goals as goal

pub returns-in-Some : goal.returns-in-Some
returns-in-Some g c = let S = c.args.lower.now in let T = c.args.upper.now in let Us = c.in-Some.members.now in
    told_under (λ map Us. list_all (λ U. is_below map c.args.level.now.scope.now c.args.level.now.height U T) Us) (union_members S) Us c.in-Some.ensures c.all_below.result c.all_below.ensures
    (λ symbols n. record { around = n.around; many = in_union symbols S Us c.in-Some.ensures n.lower; other = n.upper })
