use Rattle.std.proofs.Common.{◌≡◌, ◌++◌, ◌∙◌, [], ◌∷◌, Option, refl, sym, ap, subst, append_assoc}
use Rattle.hack_types.specs.declared.hack_type.HackType.{HackType}
use Rattle.hack_rules.specs.Variables.{Variables, joined_entry, type_in}
use Rattle.hack_walk.specs.inside.Calls.{with_joined}
use Rattle.hack_walk.proofs.Environments.{Entry, Rise, above_parts, above_those, joined_next, joined_none, looked_up, not_at}
use Rattle.hack_walk.proofs.variables.joined_types.Goals as goal

pub loop-name-preserved : goal.loop-name-preserved
loop-name-preserved c =
    let l = c.loop-name in
    let done = l.invariant.0 in
    let e : Entry = (c.in-Some.name, c.in-Some.ty) in
    let left = c.next.new.self in
    let right = c.args.right.entries in
    let all : c.args.left.entries ≡ done ++ e ∷ left = sym c.into_iter-name-iterator.ensures.into_iter_gives.0 ∙ l.invariant.1 ∙ ap (λ es. done ++ es) c.in-Some.ensures.steps in
    let above = above_those done e left (subst Rise all c.into_iter-name-iterator.ensures.into_iter_gives.5) in
    let other : c.remove-other.result ≡ type_in right e.0 = c.remove-other.ensures.value ∙ looked_up _ e.0 ∙ l.invariant.3 e.0 above in (
      done ++ e ∷ [],
      l.invariant.1 ∙ ap (λ es. done ++ es) c.in-Some.ensures.steps ∙ sym (append_assoc done (e ∷ []) left),
      c.in_ok-put_joined.ensures ∙ ap (λ (o : Option HackType). with_joined l.both.entries (joined_entry e o)) other
          ∙ ap (λ (es : Variables). with_joined es (joined_entry e (type_in right e.0))) l.invariant.2 ∙ joined_next done e right above,
      λ name higher.
          let parts = above_parts name done e higher in
          sym (looked_up _ name) ∙ c.remove-other.ensures.updates.2 name (not_at name e.0 parts.1) ∙ looked_up _ name ∙ l.invariant.3 name parts.0,
    )

pub loop-name-init : goal.loop-name-init
loop-name-init c = ([], refl, c.new-both.ensures.empty ∙ joined_none c.args.right.entries, λ name above. refl)
