use Rattle.std.proofs.Common.{◌∙◌, Ok, refl}
use Rattle.std.proofs.lemmas.Result.{err_from_is_err_and}
use Rattle.hack_types.specs.declared.hack_type.HackType.TheVariants as type
use Rattle.hack_rules.specs.Expressions.{meaning_of}
use Rattle.hack_rules.specs.Variables.{Variables, joined}
use Rattle.hack_rules.specs.Walks.{◌>>=◌, ◌>>◌, pure, replace, variables}
use Rattle.hack_walk.specs.Checks.{BranchesIn}
use Rattle.hack_walk.specs.WalkLaws.{out_of_memory, refused, walks_next, walks_pure}
use Rattle.hack_parts.specs.ExprIn.{ExprIn}
use Rattle.hack_parts.specs.PartLaws.{value_walks}
use Rattle.hack_chains.specs.inside.Chaining.{logic_row, other_side, typed_side}
use Rattle.hack_chains.proofs.Naming.{of_bool}
use Rattle.hack_chains.proofs.Sides.{in_other, in_typed}
use Rattle.hack_chains.proofs.Turning.{behind_replaced, rejoined, replaced}
use Rattle.hack_chains.proofs.logic.logic_value.Goals as goal

pub returns : goal.returns
unfolding logic_row
returns g c =
    let and = c.args.and in let first = c.args.first in let right = meaning_of c.args.right.now in
    let apart = other_side and first in
    replaced (right.walk >> (variables >>= (λ (all : Variables). replace (joined apart all) >> pure type.Bool))) (Ok type.Bool) c.args.state.now c.replace.new.self
    (typed_side and first) (c.replace.ensures.variables ∙ c.sides-typed.ensures.typed) c.replace.ensures.found
    (walks_next {NamesB = λ symbols. BranchesIn symbols first × ExprIn c.args.setting.now.scope.now symbols c.args.right.now}
    (variables >>= (λ (all : Variables). replace (joined apart all) >> pure type.Bool)) (Ok type.Bool) (value_walks c.requires.right refl c.in_ok-value.ensures)
    (rejoined (pure type.Bool) (Ok type.Bool) _ c.rejoin.new.state c.sides-typed.result.1 apart c.sides-typed.ensures.apart c.in_ok-rejoin.ensures.variables c.in_ok-rejoin.ensures.found
    (walks_pure _ _ type.Bool (λ symbols n. of_bool symbols)) (λ symbols n. in_other symbols and first n.0))
    (λ symbols n. n.1) (λ symbols n t. n) (λ symbols b n t h. h))
    (λ symbols n. in_typed symbols and first n.0)

pub returns-in_err-value : goal.returns-in_err-value
returns-in_err-value g c =
    let and = c.args.and in let first = c.args.first in
    let p = err_from_is_err_and c.from_residual.result c.from_residual.ensures.1 in
    rw (p.1, p.2) (behind_replaced c.args.state.now c.replace.new.self (typed_side and first) (c.replace.ensures.variables ∙ c.sides-typed.ensures.typed) c.replace.ensures.found
    (refused (value_walks c.requires.right refl c.in_err-value.ensures) (λ symbols n. n.1)) (λ symbols n. in_typed symbols and first n.0))

pub returns-in_err-rejoin : goal.returns-in_err-rejoin
returns-in_err-rejoin g c =
    let and = c.args.and in let first = c.args.first in
    let p = err_from_is_err_and c.from_residual-in_err-rejoin.result c.from_residual-in_err-rejoin.ensures.1 in
    rw (p.1, p.2) (behind_replaced c.args.state.now c.replace.new.self (typed_side and first) (c.replace.ensures.variables ∙ c.sides-typed.ensures.typed) c.replace.ensures.found
    (out_of_memory (value_walks c.requires.right refl c.in_ok-value.ensures) (λ symbols n. n.1)) (λ symbols n. in_typed symbols and first n.0))
