use Rattle.std.proofs.Common.{◌∙◌, ℕ, Ok, ap}
use Rattle.hack_infer.specs.Seeing.{seen_as}
use Rattle.hack_rules.specs.Loops.{class_types, keyed_by, keyed_traversable}
use Rattle.hack_walk.specs.WalkLaws.{reads_walks, restated}
use Rattle.hack_flow.proofs.foreach_types.class_types.Goals as goal

pub returns : goal.returns
unfolding class_types
returns g c =
    let head = c.args.head.now in
    reads_walks (λ m scope. seen_as m keyed_traversable head) (keyed_by c.args.at head) c.keyed_by-types.result
    (restated (Ok c.in_ok-given.given) c.in_ok-given.ensures (λ m a is. is ∙ ap (λ (name : ℕ). seen_as m name head) c.new.ensures) (λ symbols n. n) (λ symbols a n h. h)) c.keyed_by-types.ensures
    (λ symbols around n. n) (λ symbols n given. (n, given)) (λ symbols b n given h. h)
