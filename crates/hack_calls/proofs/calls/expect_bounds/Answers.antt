use Rattle.std.proofs.Common.{◌<◌, ◌≤◌, All, length, sym, subst, arith}
use Rattle.std.proofs.lemmas.Result.{err_from_is_err_and}
use Rattle.hack_types.specs.declared.hack_type.HackType.{HackType}
use Rattle.hack_types.specs.declared.place.Place.{Place}
use Rattle.hack_types.specs.declared.signature.TypeParam.{TypeParam}
use Rattle.hack_decls.specs.Names.{TypeIn, types_of_param}
use Rattle.hack_infer.specs.Filling.{Filling, filled_limited, filling_of}
use Rattle.hack_rules.specs.Walks.{Walk}
use Rattle.hack_rules.specs.WrittenTypes.{expect_within}
use Rattle.hack_walk.specs.WalkLaws.{then_refused}
use Rattle.hack_calls.proofs.Naming.{in_bounds}
use Rattle.hack_calls.proofs.Pairs.{all_pairs, next_pair, no_pair}
use Rattle.hack_calls.proofs.calls.expect_bounds.Goals as goal

-- one solved type against its parameter
abbrev one : Filling → Place → TypeParam → HackType → Walk (Unit {0})
one filling at param ty = expect_within (filled_limited filling) at param ty

pub loop-index-init : goal.loop-index-init
loop-index-init g c = no_pair (one (filling_of c.args.filling.now) c.args.at) c.args.params.now c.args.solved.now _ c.args.state.now

pub loop-index-preserved : goal.loop-index-preserved
loop-index-preserved g c =
    let ps = c.args.params.now in let ts = c.args.solved.now in let i = c.loop-index.index in let filling = filling_of c.args.filling.now in
    let p = c.index-params-index.result in let t = c.index-solved-index.result in
    let lp : i < length ps = omega arith in
    let lt : i < length ts = omega arith in
    next_pair (one filling c.args.at) ps ts i p t lp lt c.index-params-index.is c.index-solved-index.is c.loop-index.invariant c.in_ok-expect_within.ensures
    (λ symbols n. in_bounds symbols filling p t n.1 (subst (λ (x : TypeParam). All (TypeIn symbols) (types_of_param x)) (sym c.index-params-index.is) (n.0 i p lp))
    (subst (TypeIn symbols) (sym c.index-solved-index.is) (n.2 i t lt)))

pub returns : goal.returns
returns g c =
    let ps = c.args.params.now in let ts = c.args.solved.now in let i = c.loop-index.index in
    let lp : i ≤ length ps = omega arith in
    let lt : i ≤ length ts = omega arith in
    all_pairs (one (filling_of c.args.filling.now) c.args.at) ps ts i lp lt (omega arith) c.loop-index.invariant

pub returns-in_err-expect_within : goal.returns-in_err-expect_within
returns-in_err-expect_within g c =
    let ps = c.args.params.now in let ts = c.args.solved.now in let i = c.loop-index.index in let filling = filling_of c.args.filling.now in
    let p = c.index-params-index.result in let t = c.index-solved-index.result in
    let lp : i < length ps = omega arith in
    let lt : i < length ts = omega arith in
    let e = err_from_is_err_and c.from_residual.result c.from_residual.ensures.1 in
    rw (e.1, e.2) (then_refused c.loop-index.invariant c.in_err-expect_within.ensures (λ symbols n. n)
    (λ symbols n g. in_bounds symbols filling p t n.1 (subst (λ (x : TypeParam). All (TypeIn symbols) (types_of_param x)) (sym c.index-params-index.is) (n.0 i p lp))
    (subst (TypeIn symbols) (sym c.index-solved-index.is) (n.2 i t lt))))
