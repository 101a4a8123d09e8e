use Rattle.std.proofs.Common.{◌≡◌, ◌++◌, ◌∙◌, [], ◌∷◌, nat_cmp, sym, ap, subst, append_assoc}
use Rattle.std.specs.BTreeMap.{insert_entry}
use Rattle.hack_walk.proofs.Environments.{Entry, Rise, above_those, put_last}
use Rattle.hack_walk.proofs.variables.copy_types.Goals as goal

pub loop-name-preserved : goal.loop-name-preserved
loop-name-preserved c =
    let l = c.loop-name in
    let done = l.invariant.0 in
    let e : Entry = (c.in-Some.name.now, c.in-Some.ty.now) in
    let left = c.next.new.self in
    let all : c.args.types.now.entries ≡ done ++ e ∷ left = l.invariant.1 ∙ ap (λ es. done ++ es) c.in-Some.ensures.steps in
    let above = above_those done e left (subst Rise all c.iter-name-items.ensures.ordered) in (
      done ++ e ∷ [],
      all ∙ sym (append_assoc done (e ∷ []) left),
      c.in_ok-insert.ensures.entries ∙ ap (λ es. insert_entry nat_cmp es e.0 c.in_ok-copied.copied) l.invariant.2
          ∙ ap (λ ty. insert_entry nat_cmp done e.0 ty) c.in_ok-copied.ensures ∙ put_last done e.0 e.1 above,
    )
