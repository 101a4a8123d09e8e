use Rattle.std.proofs.Common.{◌∙◌, ◌+◌, ◌≤◌, true, drop, length, sym, subst, arith}
use Rattle.std.specs.List.{list_all}
use Rattle.hack_types.specs.declared.fields.Field.{Field}
use Rattle.hack_types.specs.declared.hack_type.HackType.{HackType}
use Rattle.hack_decls.specs.DeclState.{Map}
use Rattle.hack_decls.specs.Names.{TypeIn}
use Rattle.hack_sub.proofs.Loops.{all_left, all_passed, ended, went_on}
use Rattle.hack_sub.specs.IsBelow.{is_below, meets_field}
use Rattle.hack_sub.proofs.shapes.meets_all.Goals as goal

pub loop-field-preserved : goal.loop-field-preserved
loop-field-preserved g c =
    let xs = c.args.others.now in
    let i = c.loop-field.field-index in
    let x = c.field-item.result in
    let test = λ (map : Map) (field : Field HackType). meets_field (is_below map c.args.level.now.scope.now c.args.level.now.height) c.args.further c.args.fields.now field in
    went_on (λ map. list_all (test map) (drop (i + 1) xs)) c.loop-field.invariant c.in_ok-meets.meets c.in_ok-meets.ensures
    (λ map e. all_passed (test map) xs i x c.loop-field-test.true c.field-item.is (sym e ∙ c.if-not-meets.false))
    (λ symbols n. record {
      around = n.around;
      fields = n.fields;
      other = subst (λ (field : Field HackType). TypeIn symbols field.ty) (sym c.field-item.is) (n.others i x c.loop-field-test.true);
    })

pub returns : goal.returns
returns g c =
    let xs = c.args.others.now in
    let i = c.loop-field.field-index in
    let all : length xs ≤ i = omega arith in
    ended c.loop-field.invariant true (λ map. all_left (λ (field : Field HackType). meets_field (is_below map c.args.level.now.scope.now c.args.level.now.height) c.args.further c.args.fields.now field) xs i all)
