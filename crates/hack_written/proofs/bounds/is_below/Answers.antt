use Rattle.std.proofs.lemmas.Bool.Decides.{same_from_decides}
use Rattle.hack_sub.specs.IsBelow.{is_below}
use Rattle.hack_sub.specs.Sub.{most_height}
use Rattle.hack_written.proofs.Loops.{restated}
use Rattle.hack_written.proofs.bounds.is_below.Goals as goal

pub returns : goal.returns
returns g c =
    let scope = c.args.scope.now in let S = c.args.lower.now in let T = c.args.upper.now in
    restated c.is_sub.result c.is_sub.ensures
    (λ m b told. same_from_decides b (is_below m scope most_height S T) told (c.one_relation.ensures.test m scope most_height S T))
    (λ symbols n. n) (λ symbols b n w. tt)
