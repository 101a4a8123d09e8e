use Rattle.std.proofs.Common.{Ok, refl}
use Rattle.std.proofs.lemmas.Result.{err_from_is_err_and}
use Rattle.hack_types.specs.declared.hack_type.HackType.{HackType}
use Rattle.hack_decls.specs.DeclState.{Symbols}
use Rattle.hack_decls.specs.Names.{TypeIn}
use Rattle.hack_rules.specs.Variables.{Variables, joined, union_of_two}
use Rattle.hack_rules.specs.Walks.{◌>>=◌, ◌>>◌, pure, replace, variables}
use Rattle.hack_walk.specs.Checks.{VariablesIn}
use Rattle.hack_walk.specs.NamesKept.{in_union_of_two}
use Rattle.hack_walk.specs.WalkLaws.{out_of_memory, walks_pure, walks_then}
use Rattle.hack_parts.specs.ExprIn.{ExprIn}
use Rattle.hack_parts.specs.PartLaws.{value_walks}
use Rattle.hack_chains.specs.inside.Rest.{other_on}
use Rattle.hack_chains.proofs.Turning.{rejoined}
use Rattle.hack_chains.proofs.choice.other_on.Goals as goal

pub returns : goal.returns
unfolding other_on
returns g c =
    let behind = c.args.behind in let first = c.args.first in let second = c.in_ok-second.second in
    let all : Symbols → Type 0 = λ symbols. (ExprIn c.args.setting.now.scope.now symbols c.args.other.now × VariablesIn symbols behind × TypeIn symbols first) × TypeIn symbols second in
    rw c.in_ok-union_of_two.ensures (walks_then {NamesB = all} (λ (ty : HackType). variables >>= (λ (end : Variables). replace (joined behind end) >> pure (union_of_two first ty)))
    (Ok (union_of_two first second)) (value_walks c.requires.other refl c.in_ok-second.ensures)
    (rejoined (pure (union_of_two first second)) (Ok (union_of_two first second)) _ c.rejoin.new.state behind behind refl c.in_ok-rejoin.ensures.variables c.in_ok-rejoin.ensures.found
    (walks_pure _ _ (union_of_two first second) (λ symbols n. in_union_of_two symbols first second n.0.2 n.1)) (λ symbols n. n.0.1))
    (λ symbols n. n.0) (λ symbols n t. (n, t)) (λ symbols b n t h. h))

pub returns-in_err-rejoin : goal.returns-in_err-rejoin
returns-in_err-rejoin g c =
    let p = err_from_is_err_and c.from_residual-in_err-rejoin.result c.from_residual-in_err-rejoin.ensures.1 in
    rw (p.1, p.2) (out_of_memory (value_walks c.requires.other refl c.in_ok-second.ensures) (λ symbols n. n.0))

pub returns-in_err-union_of_two : goal.returns-in_err-union_of_two
returns-in_err-union_of_two g c =
    let p = err_from_is_err_and c.from_residual-in_err-union_of_two.result c.from_residual-in_err-union_of_two.ensures.1 in
    rw (p.1, p.2) (out_of_memory (value_walks c.requires.other refl c.in_ok-second.ensures) (λ symbols n. n.0))
