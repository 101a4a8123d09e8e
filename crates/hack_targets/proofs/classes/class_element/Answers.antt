use Rattle.std.proofs.Common.{◌∙◌, ℕ, ap, Ok, sym}
use Rattle.hack_infer.specs.Seeing.{ancestor_given, given}
use Rattle.hack_rules.specs.Indices.{keyed_element}
use Rattle.hack_sub.specs.Parts.{keyed_container}
use Rattle.hack_walk.specs.Checks.{setting_of}
use Rattle.hack_walk.specs.WalkLaws.{reads_walks, restated, walks_as, weaker}
use Rattle.hack_targets.specs.inside.Pieces.{named_element}
use Rattle.hack_targets.proofs.Keyed.{other_given, own_element}
use Rattle.hack_targets.proofs.classes.class_element.Goals as goal

pub returns-then-is_keyed_container : goal.returns-then-is_keyed_container
returns-then-is_keyed_container g c =
    let own = c.args.arguments.now in
    walks_as _ c.keyed_element.result (weaker c.keyed_element.result c.keyed_element.ensures (λ symbols n. (n.1, n.2)) (λ symbols a n h. h))
    (λ m. own_element (setting_of c.args.setting.now) m c.args.state.now c.args.at c.args.head.now c.args.index.now c.args.name own (sym c.is_keyed_container.ensures ∙ c.if-is_keyed_container.true))

pub returns : goal.returns
unfolding named_element
returns g c =
    let own = c.args.arguments.now in let name = c.args.name in
    let asks = restated (Ok c.in_ok-given.given) c.in_ok-given.ensures (λ m a is. is ∙ ap (λ (keyed : ℕ). ancestor_given m name own keyed) c.new-keyed.ensures ∙ sym (other_given m name own (sym c.is_keyed_container.ensures ∙ c.if-is_keyed_container.false)))
    (λ symbols n. n) (λ symbols a n h. h) in
    reads_walks (λ m scope. given m name own keyed_container) (keyed_element c.args.at c.args.head.now c.args.index.now) c.given_element-found.result asks c.given_element-found.ensures
    (λ symbols around n. (n.0, n.1)) (λ symbols n given. record { index = n.2; arguments = given }) (λ symbols b n given h. h)
