use Rattle.std.proofs.Common.{◌<◌, length, sym, subst}
use Rattle.std.proofs.lemmas.Result.{err_from_is_err_and}
use Rattle.hack_walk.specs.WalkLaws.{each_next, each_none, then_out_of_memory, then_refused}
use Rattle.hack_parts.specs.ExprIn.{OperandIn}
use Rattle.hack_parts.specs.PartNames.{in_chained}
use Rattle.hack_chains.specs.inside.Rights.{TypedIn, left_of}
use Rattle.hack_chains.proofs.from_right.typed_lefts.Goals as goal

pub loop-other-init : goal.loop-other-init
loop-other-init g c = rw c.new-items.ensures (each_none left_of TypedIn _ _)

pub loop-other-preserved : goal.loop-other-preserved
loop-other-preserved g c =
    let xs = c.args.others.now in let i = c.loop-other.other-index in let x = c.other-item.result in
    let lt : i < length xs = c.loop-other-test.true in
    rw c.in_ok-push.ensures (each_next left_of xs i _ lt c.other-item.is c.loop-other.invariant c.in_ok-item.ensures
    (λ symbols n. in_chained c.args.setting.now.scope.now symbols x (subst (OperandIn c.args.setting.now.scope.now symbols) (sym c.other-item.is) (n i x lt))))

pub returns-in_err-item : goal.returns-in_err-item
returns-in_err-item g c =
    let xs = c.args.others.now in let i = c.loop-other.other-index in let x = c.other-item.result in
    let lt : i < length xs = c.loop-other-test.true in
    let p = err_from_is_err_and c.from_residual.result c.from_residual.ensures.1 in
    rw (p.1, p.2) (then_refused c.loop-other.invariant c.in_err-item.ensures (λ symbols n. n)
    (λ symbols n t. in_chained c.args.setting.now.scope.now symbols x (subst (OperandIn c.args.setting.now.scope.now symbols) (sym c.other-item.is) (n i x lt))))

pub returns-in_err-push : goal.returns-in_err-push
returns-in_err-push g c =
    let xs = c.args.others.now in let i = c.loop-other.other-index in let x = c.other-item.result in
    let lt : i < length xs = c.loop-other-test.true in
    let p = err_from_is_err_and c.from_residual-in_err-push.result c.from_residual-in_err-push.ensures.1 in
    rw (p.1, p.2) (then_out_of_memory c.loop-other.invariant c.in_ok-item.ensures (λ symbols n. n)
    (λ symbols n t. in_chained c.args.setting.now.scope.now symbols x (subst (OperandIn c.args.setting.now.scope.now symbols) (sym c.other-item.is) (n i x lt))))
