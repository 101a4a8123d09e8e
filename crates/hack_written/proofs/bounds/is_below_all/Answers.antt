use Rattle.std.proofs.Common.{◌∙◌, ◌<◌, ◌≤◌, ◌+◌, true, false, drop, length, sym, arith}
use Rattle.std.specs.List.{list_all}
use Rattle.hack_decls.specs.DeclState.{Map}
use Rattle.hack_infer.specs.Filling.{filled_limited, filling_of}
use Rattle.hack_sub.specs.IsBelow.{is_below}
use Rattle.hack_sub.specs.Sub.{most_height}
use Rattle.hack_types.specs.declared.hack_type.HackType.{HackType}
use Rattle.hack_written.proofs.Loops.{all_failed, all_left, all_passed, begun, ended, in_all, stopped, went_on}
use Rattle.hack_written.proofs.bounds.is_below_all.Goals as goal

pub loop-bound-init : goal.loop-bound-init
loop-bound-init g c = begun _ _

pub loop-bound-preserved : goal.loop-bound-preserved
loop-bound-preserved g c =
    let put = filled_limited (filling_of c.args.filling.now) in
    let xs = c.args.bounds.now in let i = c.loop-bound.bound-index in let x = c.bound-item.result in
    let lt : i < length xs = c.loop-bound-test.true in
    let test = λ (map : Map) (bound : HackType). is_below map c.args.scope.now most_height c.args.ty.now (filled_limited (filling_of c.args.filling.now) bound) in
    went_on (λ map. list_all (test map) (drop (i + 1) xs)) c.loop-bound.invariant c.in_ok-fits.fits c.in_ok-fits.ensures
    (λ map e. all_passed (test map) xs i x lt c.bound-item.is (sym e ∙ c.if-not-fits.false))
    (λ symbols n. record { around = n.around; lower = n.given; upper = in_all symbols put xs i x lt c.bound-item.is n.put_in })

pub returns-then-not-fits : goal.returns-then-not-fits
returns-then-not-fits g c =
    let put = filled_limited (filling_of c.args.filling.now) in
    let xs = c.args.bounds.now in let i = c.loop-bound.bound-index in let x = c.bound-item.result in
    let lt : i < length xs = c.loop-bound-test.true in
    let test = λ (map : Map) (bound : HackType). is_below map c.args.scope.now most_height c.args.ty.now (filled_limited (filling_of c.args.filling.now) bound) in
    stopped c.loop-bound.invariant c.in_ok-fits.fits c.in_ok-fits.ensures false
    (λ map e. all_failed (test map) xs i x lt c.bound-item.is (sym e ∙ c.if-not-fits.true))
    (λ symbols n. record { around = n.around; lower = n.given; upper = in_all symbols put xs i x lt c.bound-item.is n.put_in })

pub returns : goal.returns
returns g c =
    let xs = c.args.bounds.now in let i = c.loop-bound.bound-index in
    let all : length xs ≤ i = omega arith in
    ended c.loop-bound.invariant true (λ map. all_left (λ (bound : HackType). is_below map c.args.scope.now most_height c.args.ty.now (filled_limited (filling_of c.args.filling.now) bound)) xs i all)
