use Rattle.std.proofs.Common.{◌≡◌, ◌<◌, ◌≤◌, ◌+◌, ◌-◌, ℕ, List, [], length, drop, arith, sym, ap, ◌∙◌, subst, nat_lt, false}
use Rattle.std.specs.List.{between}
use Rattle.std.proofs.lemmas.Bool.{OnTrue_from, OnFalse_from, ltb-true, ltb-false}
use Rattle.std.proofs.lemmas.List.{length-drop}
use Rattle.case_table.specs.Cases.{words}
use Rattle.case_table.specs.Places.{HasWords, ArePlaced}
use Rattle.case_table.proofs.Words.{words_from, words_from-cut, words_from-past, words_from-inside, first_word, at_drop, ArePlaced-more, between-none, start_of-next}
use Rattle.case_table.proofs.cases.find_ends.Goals as goal

-- where no word is left, there are no more than so many
no_more : (ws : List (List ℕ)) (i : ℕ) → drop i ws ≡ [] → length ws ≤ i
no_more ws i e = let none : length ws - i ≡ 0 = sym (length-drop i ws) ∙ ap length e in omega arith

pub returns-then-from-bytes-clause-other : goal.returns-then-from-bytes-clause-other
returns-then-from-bytes-clause-other c h =
    let none : drop c.loop-i.i (words c.args.bytes.now) ≡ [] = c.loop-i.invariant.rest ∙ words_from-past c.args.bytes.now c.loop-i.from (omega arith) in
    omega (arith, no_more (words c.args.bytes.now) c.loop-i.i none, h.count)

pub returns-then-end-from-clause-other : goal.returns-then-end-from-clause-other
returns-then-end-from-clause-other c h =
    let text = c.args.bytes.now in
    let cut = at_drop (words text) c.loop-i.i (between c.loop-i.from c.end_of_word-end.result text) [] (words_from text (c.end_of_word-end.result + 1))
    (c.loop-i.invariant.rest ∙ words_from-cut text c.loop-i.from c.end_of_word-end.result (omega arith) c.end_of_word-end.ensures.end) in
    h.not_empty c.loop-i.i [] cut.0 (cut.1 ∙ between-none text c.loop-i.from c.end_of_word-end.result c.if-end-from.true)

pub loop-i-preserved : goal.loop-i-preserved
loop-i-preserved c =
    let text = c.args.bytes.now in
    let end : ℕ = c.end_of_word-end.result in
    let cut = at_drop (words text) c.loop-i.i (between c.loop-i.from end text) [] (words_from text (end + 1))
    (c.loop-i.invariant.rest ∙ words_from-cut text c.loop-i.from end (omega arith) c.end_of_word-end.ensures.end) in
    record {
      rest = cut.2;
      placed = ArePlaced-more text c.loop-i.ends c.loop-i.i c.loop-i.from end c.loop-i.invariant.placed (omega arith) c.loop-i.invariant.start (omega (arith, c.if-end-from.false, c.end_of_word-end.ensures.end)) c.end_of_word-end.ensures.inside cut.1;
      start = start_of-next c.loop-i.ends c.loop-i.i end (omega arith);
      count = omega (arith, cut.0);
    }

pub returns-clause-placed : goal.returns-clause-placed
returns-clause-placed c = OnTrue_from _ _ (λ t.
    let text = c.args.bytes.now in
    let past : length text < c.loop-i.from = ltb-true (length text) c.loop-i.from t in
    let none : drop c.loop-i.i (words text) ≡ [] = c.loop-i.invariant.rest ∙ words_from-past text c.loop-i.from past in
    let few : length (words text) ≤ c.loop-i.i = no_more (words text) c.loop-i.i none in
    let all : c.loop-i.i ≡ length c.loop-i.ends = omega arith in
    record {
      count = omega arith;
      places = subst (λ n. ArePlaced text c.loop-i.ends n) all c.loop-i.invariant.placed;
    })

pub returns-clause-other : goal.returns-clause-other
returns-clause-other c =
    let text = c.args.bytes.now in
    let few : nat_lt (length text) c.loop-i.from ≡ false → HasWords text (length c.args.ends.now) → ⊥ = (λ t h.
    let inside : c.loop-i.from ≤ length text = ltb-false (length text) c.loop-i.from t in
    let cut = at_drop (words text) c.loop-i.i _ [] _
    (c.loop-i.invariant.rest ∙ words_from-inside text c.loop-i.from inside ∙ first_word (drop c.loop-i.from text)) in
    omega (arith, cut.0, h.count)) in
    OnFalse_from _ _ few
