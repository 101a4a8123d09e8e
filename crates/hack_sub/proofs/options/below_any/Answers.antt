use Rattle.std.proofs.Common.{◌∙◌, ◌+◌, ◌≤◌, false, drop, length, sym, arith}
use Rattle.std.specs.List.{list_any}
use Rattle.hack_types.specs.declared.hack_type.HackType.{HackType}
use Rattle.hack_decls.specs.DeclState.{Map}
use Rattle.hack_sub.proofs.Loops.{none_left, any_failed, ended, went_on}
use Rattle.hack_sub.specs.NamesOf.{in_list}
use Rattle.hack_sub.specs.IsBelow.{is_below}
use Rattle.hack_sub.proofs.options.below_any.Goals as goal

pub loop-upper-preserved : goal.loop-upper-preserved
loop-upper-preserved g c =
    let xs = c.args.uppers.now in
    let i = c.loop-upper.upper-index in
    let x = c.upper-item.result in
    let test = λ (map : Map) (U : HackType). is_below map c.args.level.now.scope.now c.args.level.now.height c.args.lower.now U in
    went_on (λ map. list_any (test map) (drop (i + 1) xs)) c.loop-upper.invariant c.in_ok-below.below c.in_ok-below.ensures
    (λ map e. any_failed (test map) xs i x c.loop-upper-test.true c.upper-item.is (sym e ∙ c.if-below.false))
    (λ symbols n. record { around = n.around; upper = in_list symbols xs i x c.loop-upper-test.true c.upper-item.is n.many; lower = n.other })

pub returns : goal.returns
returns g c =
    let xs = c.args.uppers.now in
    let i = c.loop-upper.upper-index in
    let all : length xs ≤ i = omega arith in
    ended c.loop-upper.invariant false (λ map. none_left (λ (U : HackType). is_below map c.args.level.now.scope.now c.args.level.now.height c.args.lower.now U) xs i all)
