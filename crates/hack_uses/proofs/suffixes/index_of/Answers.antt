use Rattle.std.proofs.Common.{Ok, refl}
use Rattle.hack_parts.specs.PartLaws.{value_walks}
use Rattle.hack_rules.specs.Expressions.{meaning_of}
use Rattle.hack_rules.specs.Walks.{pure}
use Rattle.hack_targets.specs.AimIn.{IndexIn}
use Rattle.hack_walk.specs.WalkLaws.{step_pure, walks_step}
use Rattle.hack_uses.specs.inside.Steps.{typed_index}
use Rattle.hack_uses.proofs.suffixes.index_of.Goals as goal

pub returns : goal.returns
unfolding typed_index
returns g c =
    let index = meaning_of c.args.index.now in let ty = c.in_ok-ty.ty in
    rw (c.place_of-at.ensures, c.form_of-key.ensures.key) (walks_step (λ t. pure (record { at = index.at; key = index.key; ty = t })) (value_walks c.requires {result = Ok ty} refl c.in_ok-ty.ensures)
    (step_pure {Gives = IndexIn} _ (record { at = index.at; key = index.key; ty = ty }) (λ symbols n. n.1)) (λ symbols n. n) (λ symbols b n g h. h))
