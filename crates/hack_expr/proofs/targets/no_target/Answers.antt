use Rattle.std.proofs.Common.{Ok, refl}
use Rattle.hack_decls.specs.Names.{TypeIn}
use Rattle.hack_parts.specs.PartLaws.{value_walks}
use Rattle.hack_rules.specs.Expressions.{meaning_of}
use Rattle.hack_rules.specs.Meanings.{no_aim, other}
use Rattle.hack_walk.specs.WalkLaws.{walks_pure, walks_then}
use Rattle.hack_expr.proofs.targets.no_target.Goals as goal

pub returns : goal.returns
unfolding no_aim
returns g c =
    let ty = c.in_ok-ty.ty in
    let at = (meaning_of c.args.e.now).at in
    rw c.other.ensures (rw c.place_of.ensures (walks_then {NamesB = λ symbols. TypeIn symbols ty} _ (Ok (other at ty)) (value_walks c.requires refl c.in_ok-ty.ensures)
    (walks_pure _ _ (other at ty) (λ symbols n. n)) (λ symbols n. n) (λ symbols n g. g) (λ symbols b n g h. h)))
