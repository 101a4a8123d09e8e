use Rattle.std.proofs.Common.{◌∙◌, Ok, refl, ap}
use Rattle.std.proofs.lemmas.Result.{err_from_is_err_and}
use Rattle.hack_rules.specs.Expressions.{meaning_of}
use Rattle.hack_rules.specs.Meanings.{Branches}
use Rattle.hack_rules.specs.Variables.{Variables}
use Rattle.hack_rules.specs.Walks.{◌>>=◌, pure}
use Rattle.hack_walk.specs.Checks.{BranchesIn, VariablesIn}
use Rattle.hack_walk.specs.WalkLaws.{out_of_memory, refused, walks_pure, walks_then}
use Rattle.hack_parts.specs.PartLaws.{condition_walks}
use Rattle.hack_chains.specs.inside.Chaining.{ends, logic_branches, other_side, typed_side}
use Rattle.hack_chains.proofs.Sides.{in_ends, in_other, in_typed}
use Rattle.hack_chains.proofs.Turning.{behind_replaced, replaced}
use Rattle.hack_chains.proofs.logic.logic_branches.Goals as goal

pub returns : goal.returns
unfolding logic_branches
returns g c =
    let and = c.args.and in let first = c.args.first in let right = meaning_of c.args.right.now in let second = c.in_ok-second.second in
    let apart = other_side and first in
    rw (c.in_ok-ends.ensures ∙ ap (λ (vs : Variables). ends and vs second) c.sides-typed.ensures.apart)
    (replaced (right.branches >>= (λ (b : Branches). pure (ends and apart b))) (Ok (ends and apart second)) c.args.state.now c.replace.new.self
    (typed_side and first) (c.replace.ensures.variables ∙ c.sides-typed.ensures.typed) c.replace.ensures.found
    (walks_then {NamesB = λ symbols. VariablesIn symbols apart × BranchesIn symbols second}
    (λ (b : Branches). pure (ends and apart b)) (Ok (ends and apart second)) (condition_walks c.requires.right refl c.in_ok-second.ensures)
    (walks_pure {Gives = BranchesIn} _ _ (ends and apart second) (λ symbols n. in_ends symbols and apart second n.0 n.1))
    (λ symbols n. n.1) (λ symbols n t. (in_other symbols and first n.0, t)) (λ symbols b n t h. h))
    (λ symbols n. in_typed symbols and first n.0))

pub returns-in_err-second : goal.returns-in_err-second
returns-in_err-second g c =
    let and = c.args.and in let first = c.args.first in
    let p = err_from_is_err_and c.from_residual.result c.from_residual.ensures.1 in
    rw (p.1, p.2) (behind_replaced c.args.state.now c.replace.new.self (typed_side and first) (c.replace.ensures.variables ∙ c.sides-typed.ensures.typed) c.replace.ensures.found
    (refused (condition_walks c.requires.right refl c.in_err-second.ensures) (λ symbols n. n.1)) (λ symbols n. in_typed symbols and first n.0))

pub returns-in_err-ends : goal.returns-in_err-ends
returns-in_err-ends g c =
    let and = c.args.and in let first = c.args.first in
    let p = err_from_is_err_and c.from_residual-in_err-ends.result c.from_residual-in_err-ends.ensures.1 in
    rw (p.1, p.2) (behind_replaced c.args.state.now c.replace.new.self (typed_side and first) (c.replace.ensures.variables ∙ c.sides-typed.ensures.typed) c.replace.ensures.found
    (out_of_memory (condition_walks c.requires.right refl c.in_ok-second.ensures) (λ symbols n. n.1)) (λ symbols n. in_typed symbols and first n.0))
