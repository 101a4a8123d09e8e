use Rattle.std.proofs.Common.{Ok}
use Rattle.std.proofs.lemmas.Result.{err_from_is_err_and}
use Rattle.hack_rules.specs.Meanings.{Branches}
use Rattle.hack_rules.specs.Walks.{pure}
use Rattle.hack_walk.specs.Checks.{BranchesIn}
use Rattle.hack_walk.specs.WalkLaws.{refused, walks_pure, walks_then}
use Rattle.hack_chains.specs.inside.Chaining.{turned}
use Rattle.hack_chains.proofs.Naming.{of_null}
use Rattle.hack_chains.proofs.Sides.{in_turned}
use Rattle.hack_chains.proofs.values.comparison.Goals as goal

pub returns : goal.returns
returns g c =
    let same = c.args.same in let branches = c.in_ok-branches.branches in
    rw c.turned.ensures (walks_then (λ (b : Branches). pure (turned same b)) (Ok (turned same branches)) c.in_ok-branches.ensures
    (walks_pure {Names = λ symbols. BranchesIn symbols branches} {Gives = BranchesIn} _ _ (turned same branches) (λ symbols n. in_turned symbols same branches n))
    (λ symbols n. of_null symbols) (λ symbols n b. b) (λ symbols b n t h. h))

pub returns-in_err-branches : goal.returns-in_err-branches
returns-in_err-branches g c =
    let p = err_from_is_err_and c.from_residual.result c.from_residual.ensures.1 in
    rw (p.1, p.2) (refused c.in_err-branches.ensures (λ symbols n. of_null symbols))
