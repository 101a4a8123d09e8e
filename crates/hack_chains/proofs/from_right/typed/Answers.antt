use Rattle.std.proofs.Common.{Ok, refl}
use Rattle.hack_types.specs.declared.hack_type.HackType.{HackType}
use Rattle.hack_decls.specs.Names.{TypeIn}
use Rattle.hack_parts.specs.PartLaws.{value_walks}
use Rattle.hack_rules.specs.Expressions.{meaning_of}
use Rattle.hack_rules.specs.Walks.{pure}
use Rattle.hack_walk.specs.WalkLaws.{walks_pure, walks_then}
use Rattle.hack_chains.specs.declared.typed.Typed.{Typed}
use Rattle.hack_chains.specs.inside.Rights.{TypedIn}
use Rattle.hack_chains.proofs.from_right.typed.Goals as goal

pub returns : goal.returns
returns g c =
    let at = (meaning_of c.args.operand.now).at in let ty = c.in_ok-ty.ty in
    let item : Typed = record { at = at; ty = ty } in
    rw c.place_of-at.ensures (walks_then {NamesB = λ symbols. TypeIn symbols ty} (λ (t : HackType). pure (record { at = at; ty = t })) (Ok item) (value_walks c.requires.operand refl c.in_ok-ty.ensures)
    (walks_pure {Gives = TypedIn} _ _ item (λ symbols n. n)) (λ symbols n. n) (λ symbols n t. t) (λ symbols b n t h. h))
