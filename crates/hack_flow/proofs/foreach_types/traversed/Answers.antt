use Rattle.std.proofs.Common.{◌∙◌, ℕ, Ok, ap}
use Rattle.hack_infer.specs.Seeing.{seen_as}
use Rattle.hack_rules.specs.Loops.{traversable, traversed, values_by}
use Rattle.hack_walk.specs.WalkLaws.{reads_walks, restated}
use Rattle.hack_flow.proofs.foreach_types.traversed.Goals as goal

pub returns : goal.returns
unfolding traversed
returns g c =
    let head = c.args.head.now in
    reads_walks (λ m scope. seen_as m traversable head) (values_by c.args.at head) c.values_by-types.result
    (restated (Ok c.in_ok-given.given) c.in_ok-given.ensures (λ m a is. is ∙ ap (λ (name : ℕ). seen_as m name head) c.new.ensures) (λ symbols n. n) (λ symbols a n h. h))
    c.values_by-types.ensures
    (λ symbols around n. n) (λ symbols n given. given) (λ symbols b n given h. h)
