use Rattle.std.proofs.Common.{◌∙◌, ◌⊎◌, ◌+◌, ◌<◌, ◌≤◌, drop, length, refl, sym, ap, arith}
use Rattle.hack_decls.specs.DeclState.{Map}
use Rattle.hack_sub.specs.NamesOf.{in_list}
use Rattle.hack_infer.proofs.TakenLaws.{next_pair, no_pair, shorter}
use Rattle.hack_infer.proofs.Takes.{left_all, left_next, left_none}
use Rattle.hack_infer.specs.Matching.{match_pair, pairs}
use Rattle.hack_infer.proofs.matching.match_all.Goals as goal

pub loop-index-init : goal.loop-index-init
loop-index-init g c = left_all _ _ _ _ (λ map. refl)

pub loop-index-preserved : goal.loop-index-preserved
loop-index-preserved g c =
    let ws = c.args.wanted.now in let gs = c.args.given.now in let i = c.loop-index.index in
    let w = c.index-wanted-index.result in let v = c.index-given-index.result in
    let t = c.loop-index.taken in
    let lw : i < length ws = omega arith in
    let lg : i < length gs = omega arith in
    let r = λ (map : Map). match_pair map in
    left_next (λ map. pairs (r map) (drop (i + 1) ws) (drop (i + 1) gs) c.match_pair.new.taken) c.loop-index.invariant c.in_ok-match_pair.ensures
    (λ map is. next_pair (r map) ws gs i t w v lw lg c.index-wanted-index.is c.index-given-index.is ∙ ap (λ next. pairs (r map) (drop (i + 1) ws) (drop (i + 1) gs) next) (sym is))
    (λ symbols n. record {
      keyed = n.keyed;
      wanted = in_list symbols ws i w lw c.index-wanted-index.is n.wanted;
      given = in_list symbols gs i v lg c.index-given-index.is n.given;
    })

pub returns : goal.returns
returns g c =
    let ws = c.args.wanted.now in let gs = c.args.given.now in let i = c.loop-index.index in
    let all : (length ws ≤ i) ⊎ (length gs ≤ i) = shorter (length ws) (length gs) i (omega arith) in
    left_none c.loop-index.invariant (λ map. no_pair (match_pair map) ws gs i c.loop-index.taken all)
