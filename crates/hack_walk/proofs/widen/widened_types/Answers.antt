use Rattle.std.proofs.Common.{◌≡◌, ◌++◌, ◌∙◌, [], ◌∷◌, nat_cmp, refl, sym, ap, subst, append-nil, append_assoc}
use Rattle.std.specs.BTreeMap.{insert_entry}
use Rattle.hack_rules.specs.Variables.{Variables, widened}
use Rattle.hack_walk.specs.inside.Calls.{widened_type}
use Rattle.hack_walk.proofs.Environments.{Entry, Rise, above_those, wide_next, wide_all}
use Rattle.hack_walk.proofs.widen.widened_types.Goals as goal

pub loop-name-init : goal.loop-name-init
loop-name-init c = ([], refl, c.new-left.ensures.empty)

pub loop-name-preserved : goal.loop-name-preserved
loop-name-preserved c =
    let l = c.loop-name in
    let done = l.invariant.0 in
    let e : Entry = (c.in-Some.name, c.in-Some.ty) in
    let rest = c.next.new.self in
    let turn : c.loop-name.name-iterator ≡ e ∷ rest = c.in-Some.ensures.steps in
    let all : c.args.types.entries ≡ done ++ e ∷ rest =
    sym c.into_iter-name-iterator.ensures.into_iter_gives.0 ∙ l.invariant.1 ∙ ap (λ (es : Variables). done ++ es) turn in
    let above = above_those done e rest (subst Rise all c.into_iter-name-iterator.ensures.into_iter_gives.5) in
    let kept = c.widened_type-kept.ensures ∙ ap (λ o. widened_type o e.1) c.type_in.ensures in (
      done ++ e ∷ [],
      l.invariant.1 ∙ ap (λ (es : Variables). done ++ es) turn ∙ sym (append_assoc done (e ∷ []) rest),
      c.in_ok-insert.ensures.entries ∙ ap (λ (es : Variables). insert_entry nat_cmp es e.0 c.widened_type-kept.result) l.invariant.2
          ∙ wide_next c.args.before.now done e c.widened_type-kept.result above kept,
    )

pub returns : goal.returns
returns c =
    let l = c.loop-name in
    let done = l.invariant.0 in
    let empty : l.name-iterator ≡ [] = c.in-None.ensures.steps.0 in
    let all : c.args.types.entries ≡ done =
    sym c.into_iter-name-iterator.ensures.into_iter_gives.0 ∙ l.invariant.1 ∙ ap (λ (es : Variables). done ++ es) empty ∙ append-nil done in
    l.invariant.2 ∙ wide_all c.args.before.now done ∙ ap (λ (es : Variables). widened c.args.before.now es) (sym all)
