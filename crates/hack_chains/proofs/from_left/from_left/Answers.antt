use Rattle.std.proofs.Common.{◌<◌, ◌+◌, Ok, length, map, take, sym, subst, arith}
use Rattle.std.proofs.lemmas.Result.{err_from_is_err_and}
use Rattle.hack_rules.specs.Chains.{from_left}
use Rattle.hack_rules.specs.Expressions.{meaning_of}
use Rattle.hack_walk.specs.WalkLaws.{then_refused, weaker}
use Rattle.hack_parts.specs.ExprIn.{OperandIn}
use Rattle.hack_parts.specs.Forms.{joined_of}
use Rattle.hack_parts.specs.PartNames.{in_chained}
use Rattle.hack_chains.proofs.LeftSteps.{left_done, one_step, reached_as}
use Rattle.hack_chains.proofs.from_left.from_left.Goals as goal

pub loop-i-init : goal.loop-i-init
unfolding from_left
loop-i-init g c =
    reached_as (meaning_of c.args.first.now) c.asked_at-wanted.ensures (weaker (Ok c.in_ok-so_far.so_far) c.in_ok-so_far.ensures (λ symbols n. n.0) (λ symbols b n t. t))

pub loop-i-preserved : goal.loop-i-preserved
loop-i-preserved g c =
    let others = c.args.others.now in let i = c.loop-i.i in let x = c.index-others-i.result in let first = meaning_of c.args.first.now in
    let lt : i < length others = c.loop-i-test.true in
    reached_as (from_left first (map joined_of (take (i + 1) others))) c.asked_at-wanted-in-loop-i.ensures
    (one_step first c.place_of-at.result c.compared_at-subject.result x others i c.args.last c.asked_at-wanted-in-loop-i.result _ lt c.index-others-i.is c.place_of-at.ensures
    c.compared_at-subject.ensures c.loop-i.invariant c.in_ok-so_far-2.ensures
    (λ symbols n t. (t, in_chained c.args.setting.now.scope.now symbols x (subst (OperandIn c.args.setting.now.scope.now symbols) (sym c.index-others-i.is) (n.1 i x lt)))))

pub returns : goal.returns
returns g c =
    let others = c.args.others.now in let i = c.loop-i.i in
    left_done (meaning_of c.args.first.now) others i c.args.last (omega arith) c.loop-i.invariant

pub returns-in_err-so_far-2 : goal.returns-in_err-so_far-2
returns-in_err-so_far-2 g c =
    let others = c.args.others.now in let i = c.loop-i.i in let x = c.index-others-i.result in
    let lt : i < length others = c.loop-i-test.true in
    let p = err_from_is_err_and c.from_residual-in_err-so_far-2.result c.from_residual-in_err-so_far-2.ensures.1 in
    rw (p.1, p.2) (then_refused c.loop-i.invariant c.in_err-so_far-2.ensures (λ symbols n. n)
    (λ symbols n t. (t, in_chained c.args.setting.now.scope.now symbols x (subst (OperandIn c.args.setting.now.scope.now symbols) (sym c.index-others-i.is) (n.1 i x lt)))))
