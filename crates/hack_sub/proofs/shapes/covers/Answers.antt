use Rattle.std.proofs.Common.{◌∙◌, ◌≤◌, length, is_some, sym, arith}
use Rattle.hack_types.specs.declared.fields.Field.{Field}
use Rattle.hack_types.specs.declared.hack_type.HackType.{HackType}
use Rattle.hack_sub.proofs.Loops.{all_failed, all_left, all_passed}
use Rattle.hack_sub.specs.Rules.{field_at}
use Rattle.hack_sub.proofs.shapes.covers.Goals as goal

pub loop-field-preserved : goal.loop-field-preserved
loop-field-preserved c =
    let there = λ (field : Field HackType). is_some (field_at c.args.others.now field.key) in
    sym (all_passed there c.args.fields.now c.loop-field.field-index c.field-item.result c.loop-field-test.true c.field-item.is (sym c.has_key.ensures ∙ c.if-not-has_key.false))
    ∙ c.loop-field.invariant

pub returns-then-not-has_key : goal.returns-then-not-has_key
returns-then-not-has_key c =
    let there = λ (field : Field HackType). is_some (field_at c.args.others.now field.key) in
    sym (all_failed there c.args.fields.now c.loop-field.field-index c.field-item.result c.loop-field-test.true c.field-item.is (sym c.has_key.ensures ∙ c.if-not-has_key.true))
    ∙ c.loop-field.invariant

pub returns : goal.returns
returns c =
    let there = λ (field : Field HackType). is_some (field_at c.args.others.now field.key) in
    let all : length c.args.fields.now ≤ c.loop-field.field-index = omega arith in
    sym (all_left there c.args.fields.now c.loop-field.field-index all) ∙ c.loop-field.invariant
