use Rattle.std.proofs.Common.{◌≡◌, ◌∙◌, ◌+◌, ◌<◌, ℕ, List, [], length, take, get_or, refl, sym, ap, arith}
use Rattle.std.proofs.lemmas.List.{take_all}
use Rattle.std.proofs.lemmas.List.Sums.{fold_more}
use Rattle.hack_rules.specs.Variables.{Variables, taken_by, taking, type_in}
use Rattle.hack_walk.proofs.widen.taking.Goals as goal

one_more : (from before : Variables) (names : List ℕ) (i name : ℕ) → i < length names → name ≡ get_or names i name
    → taken_by (taking (take i names) from before) name (type_in from name) ≡ taking (take (i + 1) names) from before
unfolding taking
one_more from before names i name inside at =
    let step = λ (here : Variables) (n : ℕ). taken_by here n (type_in from n) in
    ap (λ n. step (taking (take i names) from before) n) at ∙ sym (fold_more step before names i name inside)

none_taken : (from before : Variables) → before ≡ taking [] from before
unfolding taking
none_taken from before = refl

pub loop-name-init : goal.loop-name-init
loop-name-init c = none_taken c.args.from.now c.args.variables.now

pub loop-name-preserved : goal.loop-name-preserved
loop-name-preserved c =
    let l = c.loop-name in
    let from = c.args.from.now in let i = l.name-index in let name = c.name-item.result in
    c.in_ok-take_variable.ensures ∙ ap (λ (here : Variables). taken_by here name (type_in from name)) l.invariant
    ∙ one_more from c.args.variables.now c.args.names.now i name c.loop-name-test.true c.name-item.is

pub returns : goal.returns
returns c =
    let l = c.loop-name in
    l.invariant ∙ ap (λ names. taking names c.args.from.now c.args.variables.now) (take_all l.name-index c.args.names.now (omega arith))
