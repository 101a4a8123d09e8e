use Rattle.std.proofs.Common.{Ok}
use Rattle.hack_types.specs.Substituted.{limited}
use Rattle.hack_decls.specs.Names.{TypeIn}
use Rattle.hack_rules.specs.Walks.{pure}
use Rattle.hack_walk.specs.NamesKept.{in_limited}
use Rattle.hack_walk.specs.WalkLaws.{walks_next, walks_pure}
use Rattle.hack_new.specs.inside.Solving.{made_as}
use Rattle.hack_new.proofs.solved.made_as.Goals as goal

pub returns : goal.returns
unfolding made_as
returns g c =
    let class = c.args.class in
    rw c.limited.ensures (walks_next (pure (limited class)) (Ok (limited class)) c.in_ok-call_as.ensures
    (walks_pure {Names = λ symbols. TypeIn symbols class} _ _ (limited class) (λ symbols n. in_limited symbols class n))
    (λ symbols n. n) (λ symbols n g. n.1) (λ symbols b n g h. h))
