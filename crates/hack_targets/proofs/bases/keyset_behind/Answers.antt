use Rattle.std.proofs.Common.{Ok}
use Rattle.std.proofs.lemmas.Result.{err_from_is_err_and}
use Rattle.hack_rules.specs.Walks.{pure}
use Rattle.hack_walk.specs.WalkLaws.{out_of_memory, refused, walks_next, walks_pure}
use Rattle.hack_sub.specs.NamesOf.{of_arraykey}
use Rattle.hack_targets.specs.inside.Pieces.{keyset_behind, keyset_made}
use Rattle.hack_targets.proofs.Naming.{in_keyset_made}
use Rattle.hack_targets.proofs.bases.keyset_behind.Goals as goal

pub returns : goal.returns
unfolding keyset_behind
returns g c =
    let item = c.args.item in let new = c.args.new in
    rw c.in_ok-keyset_of.ensures (walks_next (pure (keyset_made item new)) (Ok (keyset_made item new)) c.in_ok-expect.ensures
    (walks_pure _ _ (keyset_made item new) (λ symbols n. in_keyset_made symbols item new n.0 n.1)) (λ symbols n. (of_arraykey symbols, n.1)) (λ symbols n g. n) (λ symbols b n g h. h))

pub returns-in_err-expect : goal.returns-in_err-expect
returns-in_err-expect g c =
    let p = err_from_is_err_and c.from_residual.result c.from_residual.ensures.1 in
    rw (p.1, p.2) (refused c.in_err-expect.ensures (λ symbols n. (of_arraykey symbols, n.1)))

pub returns-in_err-keyset_of : goal.returns-in_err-keyset_of
returns-in_err-keyset_of g c =
    let p = err_from_is_err_and c.from_residual-in_err-keyset_of.result c.from_residual-in_err-keyset_of.ensures.1 in
    rw (p.1, p.2) (out_of_memory c.in_ok-expect.ensures (λ symbols n. (of_arraykey symbols, n.1)))
