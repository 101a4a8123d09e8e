use Rattle.std.proofs.Common.{Ok, refl}
use Rattle.hack_decls.specs.Names.{TypeIn}
use Rattle.hack_parts.specs.PartLaws.{value_walks}
use Rattle.hack_rules.specs.Calls.{argument}
use Rattle.hack_rules.specs.Expressions.{meaning_of}
use Rattle.hack_rules.specs.Walks.{pure}
use Rattle.hack_rules.specs.WrittenTypes.{Argument}
use Rattle.hack_walk.specs.WalkLaws.{step_pure, walks_step}
use Rattle.hack_uses.proofs.arguments.argument_of.Goals as goal

pub returns : goal.returns
unfolding argument
returns g c =
    let at = (meaning_of c.args.e.now).at in let ty = c.in_ok-ty.ty in
    rw c.place_of-at.ensures (walks_step (λ t. pure (record { at = at; ty = t })) (value_walks c.requires {result = Ok ty} refl c.in_ok-ty.ensures)
    (step_pure {Gives = λ symbols (a : Argument). TypeIn symbols a.ty} _ (record { at = at; ty = ty }) (λ symbols n. n.1)) (λ symbols n. n) (λ symbols b n g h. h))
