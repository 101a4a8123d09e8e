use Rattle.std.proofs.Common.{rules, ◌≡◌, ◌++◌, ◌∷◌, ◌+◌, ◌∙◌, [], length, take, ap, sym, refl}
use Rattle.std.proofs.lemmas.List.{length-take-le, take_all, take_more}
use Rattle.hack_shallow.specs.Scope.{first_at}
use Rattle.hack_shallow.specs.Positions.{first_by}
use Rattle.hack_shallow.proofs.FirstPositions.{first_at_push}
use Rattle.hack_shallow.proofs.scope.first_positions.Goals as goal

pub loop-name-init : goal.loop-name-init
loop-name-init c = record { index = refl; found = λ query. search rules }

pub loop-name-preserved : goal.loop-name-preserved
loop-name-preserved c = record {
  index = c.in-Some.ensures.1 ∙ ap (λ n. n + 1) c.loop-name.invariant.index;
  found = λ query.
      let names = c.args.names.now in let i = c.loop-name.name-index in let n = c.name-item.result in
      let at : c.loop-name.index ≡ length (take i names) = c.loop-name.invariant.index ∙ sym (length-take-le i names c.loop-name.auto.name-index-end) in
      let more : take (i + 1) names ≡ take i names ++ n ∷ [] = take_more names i n c.loop-name-test.true ∙ ap (λ x. take i names ++ x ∷ []) (sym c.name-item.is) in
      c.in_ok-put_first.ensures query ∙ ap (first_by n c.loop-name.index query) (c.loop-name.invariant.found query)
      ∙ rw at (sym (first_at_push n query (take i names)) ∙ ap (first_at query) (sym more));
}

pub returns : goal.returns
returns c = λ query. c.loop-name.invariant.found query ∙ ap (first_at query) (take_all c.loop-name.name-index c.args.names.now c.loop-name-test.false)
