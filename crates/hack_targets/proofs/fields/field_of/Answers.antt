use Rattle.std.proofs.Common.{◌∙◌, ◌≤◌, length, sym, arith}
use Rattle.hack_targets.proofs.Found.{find_here, find_left, find_passed}
use Rattle.hack_targets.proofs.fields.field_of.Goals as goal

pub loop-field-preserved : goal.loop-field-preserved
loop-field-preserved c =
    sym (find_passed c.args.key c.args.fields.now c.loop-field.field-index c.field-item.result c.loop-field-test.true c.field-item.is (sym c.eq.ensures ∙ c.if-eq.false))
    ∙ c.loop-field.invariant

pub returns-then-eq : goal.returns-then-eq
returns-then-eq c =
    sym (find_here c.args.key c.args.fields.now c.loop-field.field-index c.field-item.result c.loop-field-test.true c.field-item.is (sym c.eq.ensures ∙ c.if-eq.true))
    ∙ c.loop-field.invariant

pub returns : goal.returns
returns c =
    let all : length c.args.fields.now ≤ c.loop-field.field-index = omega arith in
    sym (find_left c.args.key c.args.fields.now c.loop-field.field-index all) ∙ c.loop-field.invariant
