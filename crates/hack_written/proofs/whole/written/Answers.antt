use Rattle.std.proofs.Common.{◌≡◌, ◌∙◌, List, map, sym, ap, subst}
use Rattle.hack_shallow.specs.Scope.{Scope as Names}
use Rattle.hack_types.specs.declared.signature.TypeParam.{TypeParam}
use Rattle.hack_rules.specs.Walks.{◌>>=◌, reads}
use Rattle.hack_rules.specs.WrittenTypes.{mention, names_of, whole_mention, written}
use Rattle.hack_walk.specs.Checks.{setting_of}
use Rattle.hack_written.specs.WrittenIn.{WrittenIn}
use Rattle.hack_written.proofs.Walking.{walks_as}
use Rattle.hack_written.proofs.whole.written.Goals as goal

pub returns : goal.returns
unfolding written ◌>>=◌ reads
returns g c =
    let setting = setting_of c.args.setting.now in let w = c.args.ty.now in
    let found : Names = record { class = c.in_ok-class.class; function = c.in_ok-function.function } in
    let same : names_of setting.scope ≡ found = sym (λ i. record { class = c.in_ok-class.ensures i; function = (c.in_ok-function.ensures ∙ ap (λ (ps : List TypeParam). map (λ (param : TypeParam). param.name) ps) c.as_slice.ensures) i }) in
    walks_as _ c.whole_type.result c.whole_type.ensures
    (λ m. ap (λ (names : Names). whole_mention (mention names w) setting m c.args.state.now) same)
    (λ symbols n. subst (λ (names : Names). WrittenIn names symbols w) same n) (λ symbols a n v. v)
