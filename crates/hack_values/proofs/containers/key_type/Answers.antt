use Rattle.std.proofs.Common.{Ok, refl, sym, ap}
use Rattle.hack_types.specs.declared.hack_type.HackType.TheVariants.{Arraykey}
use Rattle.hack_types.specs.declared.place.Place.{Place}
use Rattle.hack_decls.specs.Names.{TypeIn}
use Rattle.hack_parts.specs.ExprIn.{ExprIn}
use Rattle.hack_parts.specs.PartLaws.{value_walks}
use Rattle.hack_rules.specs.Walks.{◌>>◌, expect, pure}
use Rattle.hack_walk.specs.WalkLaws.{walks_next, walks_on, walks_pure}
use Rattle.hack_values.specs.inside.Rows.{expect_key, key_type}
use Rattle.hack_values.proofs.Stepping.{walks_same}
use Rattle.hack_values.proofs.containers.key_type.Goals as goal

pub returns : goal.returns
unfolding key_type
returns g c =
    let key = c.args.key.now in let ty = c.in_ok-ty.ty in
    walks_on (λ t. expect_key key t >> pure t) (Ok ty) (value_walks c.requires.key {result = Ok ty} refl c.in_ok-ty.ensures)
    (walks_next {NamesC = λ symbols. ExprIn c.args.setting.now.scope.now symbols key × TypeIn symbols ty} (pure ty) (Ok ty)
    (walks_same (expect_key key ty) (Ok tt) (ap (λ (at : Place). expect at Arraykey ty) (sym c.place_of.ensures)) c.in_ok-expect_key.ensures)
    (walks_pure {Names = λ symbols. TypeIn symbols ty} {Gives = TypeIn} _ _ ty (λ symbols n. n))
    (λ symbols n. n.1) (λ symbols n g. n.1) (λ symbols b n g h. h))
    (λ symbols n. n)
