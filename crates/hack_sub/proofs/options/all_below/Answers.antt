use Rattle.std.proofs.Common.{◌∙◌, ◌+◌, ◌≤◌, true, drop, length, sym, arith}
use Rattle.std.specs.List.{list_all}
use Rattle.hack_types.specs.declared.hack_type.HackType.{HackType}
use Rattle.hack_decls.specs.DeclState.{Map}
use Rattle.hack_sub.proofs.Loops.{all_left, all_passed, ended, went_on}
use Rattle.hack_sub.specs.NamesOf.{in_list}
use Rattle.hack_sub.specs.IsBelow.{is_below}
use Rattle.hack_sub.proofs.options.all_below.Goals as goal

pub loop-lower-preserved : goal.loop-lower-preserved
loop-lower-preserved g c =
    let xs = c.args.lowers.now in
    let i = c.loop-lower.lower-index in
    let x = c.lower-item.result in
    let test = λ (map : Map) (U : HackType). is_below map c.args.level.now.scope.now c.args.level.now.height U c.args.upper.now in
    went_on (λ map. list_all (test map) (drop (i + 1) xs)) c.loop-lower.invariant c.in_ok-below.below c.in_ok-below.ensures
    (λ map e. all_passed (test map) xs i x c.loop-lower-test.true c.lower-item.is (sym e ∙ c.if-not-below.false))
    (λ symbols n. record { around = n.around; lower = in_list symbols xs i x c.loop-lower-test.true c.lower-item.is n.many; upper = n.other })

pub returns : goal.returns
returns g c =
    let xs = c.args.lowers.now in
    let i = c.loop-lower.lower-index in
    let all : length xs ≤ i = omega arith in
    ended c.loop-lower.invariant true (λ map. all_left (λ (U : HackType). is_below map c.args.level.now.scope.now c.args.level.now.height U c.args.upper.now) xs i all)
