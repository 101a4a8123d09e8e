use Rattle.std.proofs.Common.{Ok, ap, subst, sym}
use Rattle.std.proofs.lemmas.Result.{err_from_is_err_and}
use Rattle.hack_rules.specs.Meanings.{Index}
use Rattle.hack_rules.specs.Walks.{pure}
use Rattle.hack_walk.specs.WalkLaws.{out_of_memory, refused, walks_next, walks_pure}
use Rattle.hack_sub.specs.NamesOf.{of_arraykey}
use Rattle.hack_targets.specs.AimIn.{IndexIn}
use Rattle.hack_targets.specs.inside.Pieces.{dict_at, dict_made}
use Rattle.hack_targets.proofs.Naming.{in_dict_made}
use Rattle.hack_targets.proofs.Stepping.{walks_same}
use Rattle.hack_targets.proofs.bases.dict_at.Goals as goal

pub returns : goal.returns
unfolding dict_at
returns g c =
    let key = c.args.key in let value = c.args.value in let new = c.args.new in let own = c.index.inside.ty in
    walks_same _ (Ok _) (ap (λ (index : Index). dict_at key value new index) (sym c.index.view_is)) (rw c.in_ok-dict_of.ensures (walks_next (pure (dict_made key own value new)) (Ok (dict_made key own value new)) c.in_ok-expect.ensures
    (walks_pure _ _ (dict_made key own value new) (λ symbols n. in_dict_made symbols key own value new n.0 (subst (IndexIn symbols) (sym c.index.view_is) n.2) n.1 n.3))
    (λ symbols n. (of_arraykey symbols, subst (IndexIn symbols) (sym c.index.view_is) n.2)) (λ symbols n g. n) (λ symbols b n g h. h)))

pub returns-in_err-expect : goal.returns-in_err-expect
returns-in_err-expect g c =
    let p = err_from_is_err_and c.from_residual.result c.from_residual.ensures.1 in
    rw (p.1, p.2) (refused c.in_err-expect.ensures (λ symbols n. (of_arraykey symbols, subst (IndexIn symbols) (sym c.index.view_is) n.2)))

pub returns-in_err-dict_of : goal.returns-in_err-dict_of
returns-in_err-dict_of g c =
    let p = err_from_is_err_and c.from_residual-in_err-dict_of.result c.from_residual-in_err-dict_of.ensures.1 in
    rw (p.1, p.2) (out_of_memory c.in_ok-expect.ensures (λ symbols n. (of_arraykey symbols, subst (IndexIn symbols) (sym c.index.view_is) n.2)))
