use Rattle.std.proofs.Common.{◌++◌, ◌∷◌, [], Ok, map, ap}
use Rattle.std.proofs.lemmas.Result.{err_from_is_err_and}
use Rattle.hack_rules.specs.Chains.{from_right}
use Rattle.hack_rules.specs.Expressions.{meaning_of}
use Rattle.hack_rules.specs.Meanings.{Branches, plain_branches}
use Rattle.hack_rules.specs.Walks.{Walk}
use Rattle.hack_walk.specs.Checks.{setting_of}
use Rattle.hack_walk.specs.WalkLaws.{out_of_memory, walks_as}
use Rattle.hack_parts.specs.Forms.{joined_of}
use Rattle.hack_chains.proofs.Turning.{both_behind}
use Rattle.hack_chains.proofs.WholeChains.{right_branches}
use Rattle.hack_chains.proofs.chains.branches_from_right.Goals as goal

pub returns : goal.returns
unfolding plain_branches
returns g c =
    let front = c.args.front.now in let last = c.args.last.now in let first = meaning_of c.args.first.now in
    walks_as (from_right first (map joined_of (front ++ last ∷ []))).branches (Ok _)
    (both_behind c.in_ok-from_right.ensures c.in_ok-both_here.ensures.when_true c.in_ok-both_here.ensures.when_false)
    (λ m. ap (λ (walk : Walk Branches). walk (setting_of c.args.setting.now) m c.args.state.now) (right_branches first front last))

pub returns-in_err-both_here : goal.returns-in_err-both_here
returns-in_err-both_here g c =
    let p = err_from_is_err_and c.from_residual-in_err-both_here.result c.from_residual-in_err-both_here.ensures.1 in
    rw (p.1, p.2) (out_of_memory c.in_ok-from_right.ensures (λ symbols n. n))
