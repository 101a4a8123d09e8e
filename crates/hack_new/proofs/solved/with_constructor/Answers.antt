use Rattle.hack_rules.specs.News.{solved_kind}
use Rattle.hack_walk.specs.WalkLaws.{walks_next}
use Rattle.hack_new.specs.inside.Solving.{with_constructor}
use Rattle.hack_new.proofs.solved.with_constructor.Goals as goal

pub returns : goal.returns
unfolding with_constructor
returns g c =
    walks_next (solved_kind c.args.at c.args.name c.args.params.now c.args.given.now c.args.own.now.kind) c.solved_kind.result c.in_ok-expect_usable.ensures c.solved_kind.ensures
    (λ symbols n. tt) (λ symbols n g. n) (λ symbols b n g h. h)
