use Rattle.hack_infer.specs.Filling.{filling_of}
use Rattle.hack_walk.specs.WalkLaws.{walks_next}
use Rattle.hack_members.specs.inside.Rows.{gives, of_member}
use Rattle.hack_members.proofs.found.of_member.Goals as goal

pub returns : goal.returns
unfolding of_member
returns g c =
    walks_next (gives c.args.at c.args.wanted.now.sought (filling_of c.args.around.now) c.args.member.now.kind) c.gives.result c.in_ok-expect_usable.ensures c.gives.ensures
    (λ symbols n. tt) (λ symbols n g. n) (λ symbols b n g h. h)
