use Rattle.std.proofs.Common.{◌<◌, length, sym, subst}
use Rattle.hack_walk.specs.WalkLaws.{each_next, each_none}
use Rattle.hack_parts.specs.ExprIn.{ExprIn}
use Rattle.hack_chains.specs.inside.Rights.{TypedIn, value_of}
use Rattle.hack_chains.proofs.from_right.typed_values.Goals as goal

pub loop-operand-init : goal.loop-operand-init
loop-operand-init g c = rw c.new-items.ensures (each_none value_of TypedIn _ _)

pub loop-operand-preserved : goal.loop-operand-preserved
loop-operand-preserved g c =
    let xs = c.args.operands.now in let i = c.loop-operand.operand-index in let x = c.operand-item.result in
    let lt : i < length xs = c.loop-operand-test.true in
    rw c.in_ok-push.ensures (each_next value_of xs i _ lt c.operand-item.is c.loop-operand.invariant c.in_ok-item.ensures (λ symbols n. subst (ExprIn c.args.setting.now.scope.now symbols) (sym c.operand-item.is) (n i x lt)))
