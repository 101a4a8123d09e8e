use Rattle.std.proofs.Common.{◌<◌, ◌≤◌, length, sym, subst, arith}
use Rattle.std.proofs.lemmas.Result.{err_from_is_err_and}
use Rattle.hack_types.specs.declared.signature.Param.{Param}
use Rattle.hack_decls.specs.Names.{TypeIn}
use Rattle.hack_infer.specs.Filling.{filling_of}
use Rattle.hack_rules.specs.Calls.{expect_all}
use Rattle.hack_rules.specs.WrittenTypes.{Argument}
use Rattle.hack_walk.specs.WalkLaws.{then_refused}
use Rattle.hack_calls.specs.inside.Rows.{expect_one}
use Rattle.hack_calls.proofs.Pairs.{all_pairs, next_pair, no_pair}
use Rattle.hack_calls.proofs.calls.expect_all.Goals as goal

pub loop-index-init : goal.loop-index-init
loop-index-init g c = no_pair (expect_one (filling_of c.args.filling.now)) c.args.params.now c.args.given.now _ c.args.state.now

pub loop-index-preserved : goal.loop-index-preserved
loop-index-preserved g c =
    let ps = c.args.params.now in let as_ = c.args.given.now in let i = c.loop-index.index in
    let p = c.index-params-index.result in let a = c.index-given-index.result in
    let lp : i < length ps = omega arith in
    let la : i < length as_ = omega arith in
    next_pair (expect_one (filling_of c.args.filling.now)) ps as_ i p a lp la c.index-params-index.is c.index-given-index.is c.loop-index.invariant c.in_ok-expect_one.ensures
    (λ symbols n.
    (subst (λ (x : Param). TypeIn symbols x.ty) (sym c.index-params-index.is) (n.0 i p lp), n.1, subst (λ (x : Argument). TypeIn symbols x.ty) (sym c.index-given-index.is) (n.2 i a la)))

pub returns : goal.returns
unfolding expect_all
returns g c =
    let ps = c.args.params.now in let as_ = c.args.given.now in let i = c.loop-index.index in
    let lp : i ≤ length ps = omega arith in
    let la : i ≤ length as_ = omega arith in
    all_pairs (expect_one (filling_of c.args.filling.now)) ps as_ i lp la (omega arith) c.loop-index.invariant

pub returns-in_err-expect_one : goal.returns-in_err-expect_one
returns-in_err-expect_one g c =
    let ps = c.args.params.now in let as_ = c.args.given.now in let i = c.loop-index.index in
    let p = c.index-params-index.result in let a = c.index-given-index.result in
    let lp : i < length ps = omega arith in
    let la : i < length as_ = omega arith in
    let e = err_from_is_err_and c.from_residual.result c.from_residual.ensures.1 in
    rw (e.1, e.2) (then_refused c.loop-index.invariant c.in_err-expect_one.ensures (λ symbols n. n)
    (λ symbols n g.
    (subst (λ (x : Param). TypeIn symbols x.ty) (sym c.index-params-index.is) (n.0 i p lp), n.1, subst (λ (x : Argument). TypeIn symbols x.ty) (sym c.index-given-index.is) (n.2 i a la))))
