use Rattle.std.proofs.Common.{◌++◌, ◌∷◌, [], All, map, refl}
use Rattle.std.proofs.lemmas.Result.{err_from_is_err_and}
use Rattle.hack_types.specs.declared.hack_type.HackType.{HackType}
use Rattle.hack_decls.specs.DeclState.{Symbols}
use Rattle.hack_decls.specs.Names.{TypeIn}
use Rattle.hack_infer.specs.WithoutNull.{without_null}
use Rattle.hack_rules.specs.Chains.{from_right}
use Rattle.hack_rules.specs.Expressions.{meaning_of}
use Rattle.hack_rules.specs.Targets.{coalesced}
use Rattle.hack_rules.specs.Variables.{union_of_two}
use Rattle.hack_rules.specs.Walks.{◌>>=◌}
use Rattle.hack_walk.specs.Checks.{setting_of}
use Rattle.hack_walk.specs.WalkLaws.{then_refused, walks_as, walks_reads, walks_then}
use Rattle.hack_parts.specs.ExprIn.{OperandIn}
use Rattle.hack_parts.specs.Forms.{joined_of}
use Rattle.hack_parts.specs.PartLaws.{value_walks}
use Rattle.hack_chains.specs.inside.Chaining.{ChainIn}
use Rattle.hack_chains.specs.inside.Rights.{lefts_row}
use Rattle.hack_chains.proofs.RightGroups.{lefts_are}
use Rattle.hack_chains.proofs.chains.from_right.Goals as goal

pub returns : goal.returns
unfolding coalesced
returns g c =
    let front = c.args.front.now in let last = c.args.last.now in let first = meaning_of c.args.first.now in let own = c.in_ok-own.own in
    let given : Symbols → Type 0 = λ symbols. (All (OperandIn c.args.setting.now.scope.now symbols) front × OperandIn c.args.setting.now.scope.now symbols last) × TypeIn symbols own in
    walks_as (from_right first (map joined_of (front ++ last ∷ []))).walk c.coalesced.result
    (walks_then {NamesB = given} {NamesC = λ symbols. ChainIn c.args.setting.now.scope.now symbols c.args.first.now front last} (λ (ty : HackType). lefts_row front last >>= coalesced ty) c.coalesced.result
    (value_walks c.requires.value refl c.in_ok-own.ensures)
    (walks_reads (λ (ty : HackType) map scope. union_of_two (without_null map own) ty) c.coalesced.result c.in_ok-ty.ensures c.coalesced.ensures
    (λ symbols n. n.0) (λ symbols around n t. (n.1, t)) (λ symbols b n t h. h))
    (λ symbols n. n.first) (λ symbols n t. ((n.front, n.last), t)) (λ symbols b n t h. h))
    (λ m. lefts_are first front last (setting_of c.args.setting.now) m c.args.state.now)

pub returns-in_err-ty : goal.returns-in_err-ty
returns-in_err-ty g c =
    let p = err_from_is_err_and c.from_residual-in_err-ty.result c.from_residual-in_err-ty.ensures.1 in
    rw (p.1, p.2) (then_refused (value_walks c.requires.value refl c.in_ok-own.ensures) c.in_err-ty.ensures (λ symbols n. n.first) (λ symbols n t. (n.front, n.last)))
