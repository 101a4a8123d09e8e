use Rattle.std.proofs.Common.{◌≡◌, List, All, refl}
use Rattle.std.proofs.lemmas.Result.{err_from_is_err_and}
use Rattle.hack_decls.specs.DeclState.{Symbols}
use Rattle.hack_decls.specs.Names.{TypeIn}
use Rattle.hack_parts.specs.ExprIn.{OperandIn}
use Rattle.hack_parts.specs.PartLaws.{value_walks}
use Rattle.hack_parts.specs.PartNames.{in_chained}
use Rattle.hack_rules.specs.Expressions.{meaning_of}
use Rattle.hack_rules.specs.Walks.{◌>>=◌}
use Rattle.hack_walk.specs.WalkLaws.{then_refused, walks_then}
use Rattle.hack_chains.specs.declared.typed.Grouping.TheVariants as grouping
use Rattle.hack_chains.specs.declared.typed.Typed.{Typed}
use Rattle.hack_chains.specs.inside.Rights.{TypedIn, grouped, lefts_row}
use Rattle.hack_chains.proofs.RightSteps.{regrouped}
use Rattle.hack_chains.proofs.from_right.rest_from_right.Goals as goal

pub returns : goal.returns
unfolding lefts_row
returns g c =
    let front = c.args.front.now in let last = c.args.last.now in let items = c.in_ok-items.items in let ty = c.in_ok-ty.ty in
    let own : c.as_slice.result.now ≡ items = c.as_slice.ensures in
    let given : Symbols → Type 0 = λ symbols. OperandIn c.args.setting.now.scope.now symbols last × All (TypedIn symbols) items in
    let left : Symbols → Type 0 = λ symbols. All (TypedIn symbols) items × TypeIn symbols ty in
    walks_then {NamesB = given} (λ (ts : List Typed). (meaning_of last.operand).walk >>= grouped grouping.Coalesce ts) c.grouped.result c.in_ok-items.ensures
    (walks_then {NamesB = left} (grouped grouping.Coalesce items) c.grouped.result (value_walks c.requires.last_value refl c.in_ok-ty.ensures)
    (regrouped grouping.Coalesce ty own c.grouped.ensures)
    (λ symbols n. in_chained c.args.setting.now.scope.now symbols last n.0) (λ symbols n t. (n.1, t)) (λ symbols b n t h. h))
    (λ symbols n. n.0) (λ symbols n ts. (n.1, ts)) (λ symbols b n t h. h)

pub returns-in_err-ty : goal.returns-in_err-ty
returns-in_err-ty g c =
    let last = c.args.last.now in
    let p = err_from_is_err_and c.from_residual-in_err-ty.result c.from_residual-in_err-ty.ensures.1 in
    rw (p.1, p.2) (then_refused c.in_ok-items.ensures (value_walks c.requires.last_value refl c.in_err-ty.ensures) (λ symbols n. n.0) (λ symbols n ts. in_chained c.args.setting.now.scope.now symbols last n.1))
