use Rattle.std.proofs.Common.{Ok}
use Rattle.hack_rules.specs.Walks.{pure}
use Rattle.hack_walk.specs.WalkLaws.{walks_next, walks_pure}
use Rattle.hack_uses.specs.inside.Steps.{stored}
use Rattle.hack_uses.proofs.storing.stored.Goals as goal

pub returns : goal.returns
unfolding stored
returns g c = walks_next (pure c.args.ty) _ c.in_ok-store.ensures (walks_pure _ _ c.args.ty (λ symbols n. n.1)) (λ symbols n. n) (λ symbols n g. n) (λ symbols b n g h. h)
