use Rattle.std.proofs.Common.{Ok, ap, subst, sym}
use Rattle.hack_decls.specs.Names.{TypeIn}
use Rattle.hack_rules.specs.Indices.{element_at}
use Rattle.hack_rules.specs.Meanings.{Index}
use Rattle.hack_rules.specs.Walks.{pure}
use Rattle.hack_types.specs.Substituted.{limited}
use Rattle.hack_walk.specs.NamesKept.{in_limited}
use Rattle.hack_walk.specs.WalkLaws.{walks_next, walks_pure}
use Rattle.hack_targets.specs.AimIn.{IndexIn}
use Rattle.hack_targets.proofs.Stepping.{walks_same}
use Rattle.hack_targets.proofs.elements.element_at.Goals as goal

pub returns : goal.returns
unfolding element_at
returns g c =
    let value = c.args.value.now in
    walks_same _ (Ok _) (ap (λ (index : Index). element_at index c.args.key.now value) (sym c.index.view_is)) (rw (c.limited.ensures, c.in_ok-copy.ensures) (walks_next {NamesB = λ symbols. TypeIn symbols value} (pure (limited value)) (Ok (limited value)) c.in_ok-expect.ensures
    (walks_pure _ _ (limited value) (λ symbols n. in_limited symbols value n)) (λ symbols n. (n.0, subst (IndexIn symbols) (sym c.index.view_is) n.2)) (λ symbols n g. n.1) (λ symbols b n g h. h)))
