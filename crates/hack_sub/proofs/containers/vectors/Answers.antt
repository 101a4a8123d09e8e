use Rattle.hack_sub.specs.NamesOf.{in_vector}
use Rattle.hack_sub.proofs.Tells.{told_under}
use Rattle.hack_sub.specs.IsBelow.{is_below, some_and}
use Rattle.hack_sub.specs.Parts.{vector_item}
use Rattle.hack_sub.proofs.containers.vectors.Goals as goal

pub returns-in-Some-Some : goal.returns-in-Some-Some
returns-in-Some-Some g c =
    let S = c.args.lower.now in let T = c.args.upper.now in let U = c.in-Some-Some.item.now in let V = c.in-Some-Some.other.now in
    told_under (λ map U. some_and (vector_item T) (λ V. is_below map c.args.level.now.scope.now c.args.level.now.height U V)) (vector_item S) U c.in-Some-Some.ensures c.holds.result
    (told_under (λ map V. is_below map c.args.level.now.scope.now c.args.level.now.height U V) (vector_item T) V c.in-Some-Some.ensures' c.holds.result c.holds.ensures (λ symbols n. n))
    (λ symbols n. record {
      around = n.around;
      lower = in_vector symbols S U c.in-Some-Some.ensures n.lower;
      upper = in_vector symbols T V c.in-Some-Some.ensures' n.upper;
    })
