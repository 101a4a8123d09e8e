use Rattle.std.proofs.Common.{◌∙◌, ◌≤◌, ◌==◌, ℕ, Bool, length, sym, arith}
use Rattle.hack_types.specs.declared.fields.Field.{Field}
use Rattle.hack_types.specs.declared.hack_type.HackType.{HackType}
use Rattle.hack_sub.proofs.Loops.{find_here, find_left, find_passed}
use Rattle.hack_sub.proofs.shapes.field_at.Goals as goal

abbrev has : ℕ → Field HackType → Bool
has key field = field.key == key

pub loop-field-preserved : goal.loop-field-preserved
loop-field-preserved c =
    sym (find_passed (has c.args.key) c.args.fields.now c.loop-field.field-index c.field-item.result c.loop-field-test.true c.field-item.is (sym c.eq.ensures ∙ c.if-eq.false))
    ∙ c.loop-field.invariant

pub returns-then-eq : goal.returns-then-eq
returns-then-eq c =
    sym (find_here (has c.args.key) c.args.fields.now c.loop-field.field-index c.field-item.result c.loop-field-test.true c.field-item.is (sym c.eq.ensures ∙ c.if-eq.true))
    ∙ c.loop-field.invariant

pub returns : goal.returns
returns c =
    let all : length c.args.fields.now ≤ c.loop-field.field-index = omega arith in
    sym (find_left (has c.args.key) c.args.fields.now c.loop-field.field-index all) ∙ c.loop-field.invariant
