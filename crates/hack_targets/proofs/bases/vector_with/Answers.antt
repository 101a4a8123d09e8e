use Rattle.std.proofs.Common.{Ok}
use Rattle.std.proofs.lemmas.Result.{err_from_is_err_and}
use Rattle.hack_rules.specs.Indices.{vector_with}
use Rattle.hack_rules.specs.Walks.{pure}
use Rattle.hack_walk.specs.WalkLaws.{out_of_memory, refused, walks_next, walks_pure}
use Rattle.hack_sub.specs.NamesOf.{of_int}
use Rattle.hack_targets.specs.inside.Pieces.{vector_made}
use Rattle.hack_targets.proofs.Naming.{in_vector_made}
use Rattle.hack_targets.proofs.bases.vector_with.Goals as goal

pub returns : goal.returns
unfolding vector_with
returns g c =
    let item = c.args.item in let new = c.args.new in
    rw c.in_ok-vector_of.ensures (walks_next (pure (vector_made item new)) (Ok (vector_made item new)) c.in_ok-expect_index.ensures
    (walks_pure _ _ (vector_made item new) (λ symbols n. in_vector_made symbols item new n.0.0 n.1)) (λ symbols n. (of_int symbols, n.0.1)) (λ symbols n g. n) (λ symbols b n g h. h))

pub returns-in_err-expect_index : goal.returns-in_err-expect_index
returns-in_err-expect_index g c =
    let p = err_from_is_err_and c.from_residual.result c.from_residual.ensures.1 in
    rw (p.1, p.2) (refused c.in_err-expect_index.ensures (λ symbols n. (of_int symbols, n.0.1)))

pub returns-in_err-vector_of : goal.returns-in_err-vector_of
returns-in_err-vector_of g c =
    let p = err_from_is_err_and c.from_residual-in_err-vector_of.result c.from_residual-in_err-vector_of.ensures.1 in
    rw (p.1, p.2) (out_of_memory c.in_ok-expect_index.ensures (λ symbols n. (of_int symbols, n.0.1)))
