use Rattle.std.proofs.Common.{◌∙◌, ◌+◌, ◌≤◌, drop, length, refl, sym, ap, arith}
use Rattle.hack_decls.specs.DeclState.{Map}
use Rattle.std.specs.List.{fold}
use Rattle.hack_types.specs.declared.hack_type.HackType.{HackType}
use Rattle.hack_sub.specs.NamesOf.{in_list}
use Rattle.hack_infer.proofs.TakenLaws.{next_member, no_member}
use Rattle.hack_infer.proofs.Takes.{left_all, left_next, left_none}
use Rattle.hack_infer.specs.Matching.{match_in}
use Rattle.hack_infer.specs.declared.taken.Taken.{Taken}
use Rattle.hack_infer.proofs.steps.each_member.Goals as goal

pub loop-member-init : goal.loop-member-init
loop-member-init g c = left_all _ _ _ _ (λ map. refl)

pub loop-member-preserved : goal.loop-member-preserved
loop-member-preserved g c =
    let xs = c.args.members.now in let i = c.loop-member.member-index in let x = c.member-item.result in
    let t = c.loop-member.taken in
    let f = λ (map : Map) (so_far : Taken) (member : HackType). match_in c.args.deeper.now.depth map c.args.wanted.now member so_far in
    left_next (λ map. fold (f map) c.matched.new.taken (drop (i + 1) xs)) c.loop-member.invariant c.in_ok-matched.ensures
    (λ map is. next_member (f map) xs i t x c.loop-member-test.true c.member-item.is ∙ ap (λ next. fold (f map) next (drop (i + 1) xs)) (sym is))
    (λ symbols n. record { keyed = n.keyed; wanted = n.wanted; given = in_list symbols xs i x c.loop-member-test.true c.member-item.is n.members })

pub returns : goal.returns
returns g c =
    let xs = c.args.members.now in let i = c.loop-member.member-index in
    let all : length xs ≤ i = omega arith in
    left_none c.loop-member.invariant (λ map. no_member (λ so_far member. match_in c.args.deeper.now.depth map c.args.wanted.now member so_far) xs i c.loop-member.taken all)
