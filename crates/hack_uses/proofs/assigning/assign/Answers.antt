use Rattle.std.proofs.Common.{Ok, refl, sym}
use Rattle.hack_rules.specs.Expressions.{meaning_of}
use Rattle.hack_rules.specs.Walks.{◌>>=◌}
use Rattle.hack_parts.specs.PartLaws.{value_walks}
use Rattle.hack_uses.proofs.AimLaws.{target_walks}
use Rattle.hack_decls.specs.Names.{TypeIn}
use Rattle.hack_rules.specs.Targets.{assign_row}
use Rattle.hack_targets.specs.AimIn.{AimIn}
use Rattle.hack_walk.specs.WalkLaws.{walks_on, walks_then}
use Rattle.hack_uses.specs.inside.Steps.{stored}
use Rattle.hack_uses.proofs.assigning.assign.Goals as goal

pub returns : goal.returns
unfolding assign_row stored
returns g c =
    let value = meaning_of c.args.e.now in
    walks_on (λ aim. value.walk >>= (λ ty. stored value.at aim ty)) c.stored.result (target_walks c.requires.target {result = Ok c.in_ok-aim.aim} refl c.in_ok-aim.ensures)
    (walks_then {NamesB = λ symbols. AimIn symbols c.in_ok-aim.aim × TypeIn symbols c.in_ok-ty.ty} (λ ty. stored value.at c.in_ok-aim.aim ty) c.stored.result (value_walks c.requires.value {result = Ok c.in_ok-ty.ty} refl c.in_ok-ty.ensures) (rw (sym c.place_of.ensures) c.stored.ensures)
    (λ symbols n. n.0.1) (λ symbols n t. (n.1, t)) (λ symbols b n t h. h))
    (λ symbols n. n.0)
