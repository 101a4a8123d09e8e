use Rattle.hack_sub.specs.IsBelow.{is_below}
use Rattle.hack_sub.specs.Sub.{most_height}
use Rattle.hack_walk.specs.WalkLaws.{restated}
use Rattle.hack_walk.proofs.Refinements.{same_truth}
use Rattle.hack_walk.proofs.below.is_below.Goals as goal

pub returns : goal.returns
returns g c =
    restated c.is_sub.result c.is_sub.ensures
    (λ m a holds.
    let test = c.one_relation.ensures.test m c.args.scope.now most_height c.args.lower.now c.args.upper.now in
    same_truth a (is_below m c.args.scope.now most_height c.args.lower.now c.args.upper.now) (λ e. test.1 (holds.0 e)) (λ e. holds.1 (test.0 e)))
    (λ symbols n. n) (λ symbols a n given. given)
