use Rattle.std.proofs.Common.{◌∙◌, ◌+◌, ◌<◌, ◌≤◌, false, drop, get_or, length, sym, arith}
use Rattle.std.specs.List.{list_any}
use Rattle.hack_decls.specs.DeclState.{Map}
use Rattle.hack_sub.proofs.Loops.{any_failed, by_place, ended, none_left, went_on}
use Rattle.hack_sub.specs.IsBelow.{all_ways, goes, is_below}
use Rattle.hack_sub.specs.declared.way.Way.{Way}
use Rattle.hack_sub.specs.declared.way.Way.TheVariants.{IntoOption}
use Rattle.hack_sub.proofs.sub.by_some_way.Goals as goal

pub loop-way-preserved : goal.loop-way-preserved
loop-way-preserved g c =
    let i = c.loop-way.way-index in
    let x = get_or all_ways i IntoOption in
    let test = λ (map : Map) (way : Way). goes way map c.args.level.now.scope.now c.args.lower_is c.args.upper_is (is_below map c.args.level.now.scope.now c.args.level.now.height) c.args.lower.now c.args.upper.now in
    let lt : i < length all_ways = omega arith in
    went_on (λ map. list_any (test map) (drop (i + 1) all_ways)) c.loop-way.invariant c.in_ok-goes.goes c.in_ok-goes.ensures
    (λ map e. any_failed (test map) all_ways i x lt (by_place all_ways i IntoOption x lt) (sym e ∙ c.if-goes.false))
    (λ symbols n. n)

pub returns : goal.returns
returns g c =
    let i = c.loop-way.way-index in
    let all : length all_ways ≤ i = omega arith in
    ended c.loop-way.invariant false (λ map. none_left (λ (way : Way). goes way map c.args.level.now.scope.now c.args.lower_is c.args.upper_is (is_below map c.args.level.now.scope.now c.args.level.now.height) c.args.lower.now c.args.upper.now) all_ways i all)
