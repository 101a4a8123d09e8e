use Rattle.std.proofs.Common.{◌≡◌, IfOk, map, take, sym, ap, subst, ◌∙◌, arith}
use Rattle.std.proofs.lemmas.List.{take_all}
use Rattle.hack_types.specs.Rising.{FieldsRise}
use Rattle.hack_types.specs.declared.hack_type.HackType.{HackType}
use Rattle.hack_types.specs.formers.fields.Fields.{on_type}
use Rattle.hack_infer.specs.Filling.{filled, filling_of}
use Rattle.hack_infer.proofs.FillLemmas.{class_param_is, fun_param_is, put_rise, this_is}
use Rattle.hack_infer.proofs.filling.+put.Goals as goal

pub put_into_fields-from_vec-requires : goal.put_into_fields-from_vec-requires
put_into_fields-from_vec-requires t c =
    let items = c.as_slice-field-items.result.now in
    let whole : take c.loop-field.field-index items ≡ c.args.fields.now =
    take_all c.loop-field.field-index items (omega (arith, c.loop-field-test.false)) ∙ c.as_slice-field-items.ensures.items in
    let filling = filling_of c.args.filling.now in
    subst FieldsRise (sym (c.loop-field.invariant ∙ ap (map (on_type (filled filling))) whole))
    (put_rise filling c.args.fields.now c.as_slice.ensures.rise)

pub put-returns-in-ClassParam : goal.put-returns-in-ClassParam
put-returns-in-ClassParam t c =
    subst (λ (ty : HackType). IfOk c.class_param.result (λ put. put ≡ ty)) (class_param_is (filling_of c.args.filling.now) c.args.ty.now c.in-ClassParam.position _ c.in-ClassParam.is) c.class_param.ensures

pub put-returns-in-FunParam : goal.put-returns-in-FunParam
put-returns-in-FunParam t c =
    subst (λ (ty : HackType). IfOk c.fun_param.result (λ put. put ≡ ty)) (fun_param_is (filling_of c.args.filling.now) c.args.ty.now c.in-FunParam.position _ c.in-FunParam.is) c.fun_param.ensures

pub put-returns-in-This : goal.put-returns-in-This
put-returns-in-This t c =
    subst (λ (ty : HackType). IfOk c.this.result (λ put. put ≡ ty)) (this_is (filling_of c.args.filling.now) c.args.ty.now c.in-This.is) c.this.ensures
