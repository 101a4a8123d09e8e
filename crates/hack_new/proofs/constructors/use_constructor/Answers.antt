use Rattle.hack_walk.specs.WalkLaws.{walks_next}
use Rattle.hack_new.specs.inside.Rows.{call_kind, use_constructor}
use Rattle.hack_new.proofs.constructors.use_constructor.Goals as goal

pub returns : goal.returns
unfolding use_constructor
returns g c =
    walks_next (call_kind c.args.at c.args.arguments.now c.args.made.now c.args.given.now c.args.member.now.kind) _ c.in_ok-expect_usable.ensures c.call_kind.ensures
    (λ symbols n. tt) (λ symbols n g. n) (λ symbols b n g h. h)
