use Rattle.std.proofs.Common.{Ok}
use Rattle.hack_decls.specs.Names.{TypeIn}
use Rattle.hack_rules.specs.Meanings.{property}
use Rattle.hack_rules.specs.Uses.{property_aim}
use Rattle.hack_walk.specs.WalkLaws.{walks_pure, walks_then}
use Rattle.hack_expr.proofs.targets.property_target.Goals as goal

pub returns : goal.returns
unfolding property_aim
returns g c =
    let ty = c.in_ok-ty.ty in
    rw c.property.ensures (walks_then {NamesB = λ symbols. TypeIn symbols ty} _ (Ok (property ty)) c.in_ok-ty.ensures (walks_pure _ _ (property ty) (λ symbols n. n))
    (λ symbols n. n) (λ symbols n g. g) (λ symbols b n g h. h))
