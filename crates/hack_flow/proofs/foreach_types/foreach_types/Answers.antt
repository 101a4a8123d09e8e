use Rattle.std.proofs.Common.{ap, sym}
use Rattle.hack_rules.specs.Expressions.{judged, meaning_of}
use Rattle.hack_types.specs.declared.place.Place.{Place}
use Rattle.hack_walk.specs.WalkLaws.{walks_then}
use Rattle.hack_flow.specs.inside.ForeachRows.{head_types}
use Rattle.hack_flow.proofs.Foreaching.{types_pieces, walks_same}
use Rattle.hack_flow.proofs.foreach_types.foreach_types.Goals as goal

pub returns : goal.returns
unfolding judged
returns g c =
    let subject = meaning_of c.args.subject.now in
    walks_same _ c.head_types.result (types_pieces subject)
    (walks_then (head_types subject.at) c.head_types.result c.in_ok-ty.ensures
    (walks_same _ c.head_types.result (ap (λ (at : Place). head_types at c.in_ok-ty.ty) (sym c.place_of.ensures)) c.head_types.ensures)
    (λ symbols n. n) (λ symbols n ty. ty) (λ symbols b n given h. h))
