use Rattle.std.proofs.Common.{rules, ◌≡◌, ◌<◌, ◌∙◌, [], false, is_some, length, take, sym, ap, subst, arith}
use Rattle.std.specs.BTreeMap.{get}
use Rattle.std.specs.Ordering.{nat_cmp}
use Rattle.hack_parts.specs.ExprIn.{FieldIn}
use Rattle.hack_rules.specs.WrittenTypes.{is_key_of}
use Rattle.hack_values.proofs.Fields.{fields_next, keys_next, none_yet, shape_walks}
use Rattle.hack_values.proofs.Keys.{given_more, keys_after}
use Rattle.hack_values.proofs.shapes.shape.Goals as goal

pub loop-field-init : goal.loop-field-init
loop-field-init g c = record { walked = rw c.new-by_key.ensures.empty (none_yet _ _); keys = λ query. search rules }

pub loop-field-preserved : goal.loop-field-preserved
loop-field-preserved g c =
    let fs = c.args.fields.now in let i = c.loop-field.field-index in let f = c.field-item.result in
    let lt : i < length fs = c.loop-field-test.true in let at = c.field-item.is in
    let given = c.contains_key-is_given.result in let ty = c.in_ok-ty.ty in
    let keys = keys_after [] (take i fs) in
    let before = c.loop-field.by_key in
    let told : given ≡ is_key_of f.key keys = c.contains_key-is_given.ensures ∙ sym (c.loop-field.invariant.keys f.key) in
    record {
      walked = fields_next fs i f given c.put.new.by_key.entries lt at told c.in_ok-put.ensures.entries c.loop-field.invariant.walked c.in_ok-ty.ensures
          (λ symbols n. subst (FieldIn c.args.setting.now.scope.now symbols) (sym at) (n i f lt));
      keys = λ query. ap (is_key_of query) (keys_next fs i f lt at)
          ∙ given_more f.key query keys (false, ty) (get nat_cmp before query) (c.loop-field.invariant.keys query) ∙ sym (ap is_some (c.in_ok-put.ensures.found query));
    }

pub returns : goal.returns
returns g c = shape_walks c.args.fields.now c.loop-field.field-index _ (omega arith) c.in_ok-shape_of.ensures c.loop-field.invariant.walked
