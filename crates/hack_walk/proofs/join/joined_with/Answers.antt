use Rattle.std.proofs.Common.{◌≡◌, ◌∙◌, List, [], ◌∷◌, length, refl, sym, ap, arith}
use Rattle.std.specs.Vec.Iter.{into_iter_items}
use Rattle.hack_rules.specs.Variables.{Variables, joined, joined_with}
use Rattle.hack_walk.proofs.join.joined_with.Goals as goal

nothing_left : {X : Type 0} (xs : List X) → length xs ≡ 0 → xs ≡ []
nothing_left [] h = refl
nothing_left (x ∷ xs) h = absurd (omega arith)

one_end : (here : Variables) (end : Variables) (ends : List Variables) → joined_with here (end ∷ ends) ≡ joined_with (joined here end) ends
unfolding joined_with
one_end here end ends = refl

no_end : (here : Variables) → joined_with here [] ≡ here
unfolding joined_with
no_end here = refl

pub loop-end-preserved : goal.loop-end-preserved
loop-end-preserved c =
    let at = c.loop-end in
    let end = c.in-Some.end in
    let left = into_iter_items c.next.new.self in
    let steps : into_iter_items at.end-iterator ≡ end ∷ left = c.in-Some.ensures.steps.0 in (
      ap (λ (here : Variables). joined_with here left) c.in_ok-here.ensures ∙ sym (one_end at.here end left)
          ∙ ap (λ (ends : List Variables). joined_with at.here ends) (sym steps) ∙ at.invariant.0,
      let was = at.invariant.1 in
          let gone = c.in-Some.ensures.steps.1 in
          let short = ap length steps in
          omega arith,
    )

pub returns : goal.returns
returns c =
    let at = c.loop-end in
    let none = c.in-None.ensures.steps in
    let empty : into_iter_items at.end-iterator ≡ [] = nothing_left _ (sym at.invariant.1 ∙ none.0) in
    sym (no_end at.here) ∙ ap (λ (ends : List Variables). joined_with at.here ends) (sym empty) ∙ at.invariant.0
    ∙ ap (λ (ends : List Variables). joined_with c.args.variables ends) c.into_iter-end-iterator.ensures.into_iter_gives.0
