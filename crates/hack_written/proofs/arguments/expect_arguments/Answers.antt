use Rattle.std.proofs.Common.{◌≡◌, ◌<◌, ◌≤◌, Ok, All, length, refl, sym, ap, subst, arith}
use Rattle.std.proofs.lemmas.Result.{err_from_is_err_and}
use Rattle.hack_types.specs.declared.signature.TypeParam.{TypeParam}
use Rattle.hack_decls.specs.Names.{TypeIn, types_of_param}
use Rattle.hack_rules.specs.Walks.{Walk, for_pairs, pure}
use Rattle.hack_rules.specs.WrittenTypes.{expect_arguments}
use Rattle.hack_walk.specs.Checks.{setting_of}
use Rattle.hack_written.specs.Within.{arguments_of}
use Rattle.hack_written.proofs.Lists.{pairs_end}
use Rattle.hack_written.proofs.Pairs.{expect_one, pair_next}
use Rattle.hack_written.proofs.Puts.{argument_count, in_bounds, shorter}
use Rattle.hack_written.proofs.Walking.{broken, walked, walks_as, walks_then}
use Rattle.hack_written.proofs.arguments.expect_arguments.Goals as goal

pub loop-index-init : goal.loop-index-init
unfolding for_pairs pure
loop-index-init g c = let s = c.args.state.now in walked _ _ s s tt (λ m. refl) refl (λ symbols n. tt)

pub loop-index-preserved : goal.loop-index-preserved
loop-index-preserved g c =
    let ps = c.args.params.now in let ws = c.args.written.now in let ts = c.args.types.now in let i = c.loop-index.index in
    let p = c.index-params-index.result in let w = c.index-written-index.result in let t = c.index-types-index.result in
    let setting = setting_of c.args.setting.now in let mid = c.loop-index.state in let last = c.expect_within.new.state in
    let lp : i < length ps = omega arith in
    let lt : i < length ts = omega arith in
    walks_then _ (Ok tt) c.loop-index.invariant c.in_ok-expect_within.ensures
    (λ m is. pair_next ws ts c.requires ps i p w t c.place_of.result setting m c.args.state.now mid lp lt c.index-params-index.is c.index-written-index.is c.index-types-index.is c.place_of.ensures is)
    (λ symbols n. n)
    (λ symbols n v. in_bounds symbols ts n.0 p t (subst (λ (x : TypeParam). All (TypeIn symbols) (types_of_param x)) (sym c.index-params-index.is) (n.1 i p lp))
    (subst (TypeIn symbols) (sym c.index-types-index.is) (n.0 i t lt)))
    (λ symbols b n v u. tt)

pub returns : goal.returns
unfolding expect_arguments
returns g c =
    let ps = c.args.params.now in let ws = c.args.written.now in let ts = c.args.types.now in let i = c.loop-index.index in
    let as_ = arguments_of ws ts in let setting = setting_of c.args.setting.now in
    let count : length as_ ≡ length ts = argument_count ws ts c.requires in
    let lp : i ≤ length ps = omega arith in
    let la : i ≤ length as_ = omega (arith, count) in
    walks_as _ (Ok tt) c.loop-index.invariant
    (λ m. sym (ap (λ (walk : Walk (Unit {0})). walk setting m c.args.state.now) (pairs_end (expect_one as_) ps as_ i lp la (shorter (length ps) (length ts) (length as_) i count (omega arith)))))
    (λ symbols n. n) (λ symbols a n w. tt)

pub returns-in_err-expect_within : goal.returns-in_err-expect_within
returns-in_err-expect_within g c =
    let ps = c.args.params.now in let ts = c.args.types.now in let i = c.loop-index.index in
    let p = c.index-params-index.result in let t = c.index-types-index.result in
    let lp : i < length ps = omega arith in
    let lt : i < length ts = omega arith in
    let e = err_from_is_err_and c.from_residual.result c.from_residual.ensures.1 in
    rw (e.1, e.2) (broken _ _ c.loop-index.invariant c.in_err-expect_within.ensures (λ symbols n. n)
    (λ symbols n v. in_bounds symbols ts n.0 p t (subst (λ (x : TypeParam). All (TypeIn symbols) (types_of_param x)) (sym c.index-params-index.is) (n.1 i p lp))
    (subst (TypeIn symbols) (sym c.index-types-index.is) (n.0 i t lt))))
