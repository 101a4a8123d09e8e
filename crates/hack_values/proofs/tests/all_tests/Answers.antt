use Rattle.std.proofs.Common.{◌<◌, length, refl, sym, subst, arith}
use Rattle.std.proofs.lemmas.Result.{err_from_is_err_and}
use Rattle.hack_tree.specs.declared.expression.TypeTest.{TypeTest}
use Rattle.hack_rules.specs.Values.{tests_row}
use Rattle.hack_walk.specs.WalkLaws.{then_refused, walks_pure}
use Rattle.hack_parts.specs.ExprIn.{TestIn}
use Rattle.hack_values.proofs.Testing.{subject_next, tests_all, tests_next}
use Rattle.hack_values.proofs.tests.all_tests.Goals as goal

pub loop-test-init : goal.loop-test-init
unfolding tests_row
loop-test-init g c = record { walked = walks_pure _ c.args.state.now c.args.before (λ symbols n. n.0); here = refl }

pub loop-test-preserved : goal.loop-test-preserved
loop-test-preserved g c =
    let ts = c.args.tests.now in let i = c.loop-test.test-index in let t = c.test-item.result in
    let lt : i < length ts = c.loop-test-test.true in
    record {
      walked = tests_next c.args.subject c.loop-test.here c.args.before ts i t lt c.test-item.is c.loop-test.invariant.here c.loop-test.invariant.walked c.in_ok-ty.ensures
          (λ symbols n. subst (TestIn c.args.setting.now.scope.now symbols) (sym c.test-item.is) (n.1 i t lt));
      here = subject_next c.args.subject ts i t lt c.test-item.is;
    }

pub returns : goal.returns
returns g c = tests_all c.args.subject c.args.before c.args.tests.now c.loop-test.test-index (omega arith) c.loop-test.invariant.walked

pub returns-in_err-ty : goal.returns-in_err-ty
returns-in_err-ty g c =
    let ts = c.args.tests.now in let i = c.loop-test.test-index in let t = c.test-item.result in
    let lt : i < length ts = c.loop-test-test.true in
    let p = err_from_is_err_and c.from_residual.result c.from_residual.ensures.1 in
    rw (p.1, p.2) (then_refused c.loop-test.invariant.walked c.in_err-ty.ensures (λ symbols n. n)
    (λ symbols n g. subst (TestIn c.args.setting.now.scope.now symbols) (sym c.test-item.is) (n.1 i t lt)))
