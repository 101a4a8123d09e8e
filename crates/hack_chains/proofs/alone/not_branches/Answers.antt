use Rattle.std.proofs.Common.{Ok, refl}
use Rattle.hack_rules.specs.Chains.{not_branches}
use Rattle.hack_rules.specs.Meanings.{Branches}
use Rattle.hack_rules.specs.Refining.{swapped}
use Rattle.hack_rules.specs.Walks.{pure}
use Rattle.hack_walk.specs.Checks.{BranchesIn}
use Rattle.hack_walk.specs.WalkLaws.{walks_pure, walks_then}
use Rattle.hack_parts.specs.PartLaws.{condition_walks}
use Rattle.hack_chains.proofs.alone.not_branches.Goals as goal

pub returns : goal.returns
unfolding not_branches
returns g c =
    let branches = c.in_ok-branches.branches in
    rw c.swapped.ensures (walks_then (λ (b : Branches). pure (swapped b)) (Ok (swapped branches)) (condition_walks c.requires.operand refl c.in_ok-branches.ensures)
    (walks_pure {Names = λ symbols. BranchesIn symbols branches} {Gives = BranchesIn} _ _ (swapped branches) (λ symbols n. record { when_true = n.when_false; when_false = n.when_true }))
    (λ symbols n. n) (λ symbols n b. b) (λ symbols b n t h. h))
