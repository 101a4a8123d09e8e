use Rattle.std.proofs.Common.{◌≡◌, ◌∙◌, List, map, sym, ap, subst}
use Rattle.hack_types.specs.declared.signature.TypeParam.{TypeParam}
use Rattle.hack_shallow.specs.Scope.{Scope as Names}
use Rattle.hack_rules.specs.WrittenTypes.{class_mention, names_of, whole_class}
use Rattle.hack_walk.specs.Checks.{setting_of}
use Rattle.hack_written.specs.WrittenIn.{ClassIn}
use Rattle.hack_written.proofs.Walking.{walks_as}
use Rattle.hack_written.proofs.whole.named_class.Goals as goal

pub returns : goal.returns
returns g c =
    let setting = setting_of c.args.setting.now in let class = c.args.class.now in
    let found : Names = record { class = c.in_ok-outer.outer; function = c.in_ok-function.function } in
    let same : names_of setting.scope ≡ found =
    sym (λ i. record { class = c.in_ok-outer.ensures i; function = (c.in_ok-function.ensures ∙ ap (λ (ps : List TypeParam). map (λ (param : TypeParam). param.name) ps) c.as_slice.ensures) i }) in
    walks_as _ c.whole_name.result c.whole_name.ensures
    (λ m. ap (λ (names : Names). whole_class c.args.traits (class_mention names class) setting m c.args.state.now) same)
    (λ symbols n. subst (λ (names : Names). ClassIn names symbols class) same n) (λ symbols a n v. v)
