use Rattle.std.proofs.Common.{◌∙◌, ◌+◌, ◌<◌, ◌≤◌, true, drop, length, sym, arith}
use Rattle.hack_decls.specs.DeclState.{Map}
use Rattle.hack_sub.proofs.FitLaws.{fit_left, fit_stepped}
use Rattle.hack_sub.proofs.Loops.{ended, went_on}
use Rattle.hack_sub.specs.NamesOf.{in_list}
use Rattle.hack_sub.specs.IsBelow.{fit, is_below}
use Rattle.hack_sub.proofs.class_types.fit_each.Goals as goal

pub loop-index-preserved : goal.loop-index-preserved
loop-index-preserved g c =
    let ps = c.args.params.now in let us = c.args.lowers.now in let vs = c.args.uppers.now in
    let i = c.loop-index.index in
    let p = c.index-params-index.result in let u = c.index-lowers-index.result in let v = c.index-uppers-index.result in
    let lp : i < length ps = omega arith in
    let lu : i < length us = omega (arith, c.requires.lowers, lp) in
    let lv : i < length vs = omega (arith, c.requires.uppers, lp) in
    let test = λ (map : Map). is_below map c.args.level.now.scope.now c.args.level.now.height in
    went_on (λ map. fit (test map) (drop (i + 1) ps) (drop (i + 1) us) (drop (i + 1) vs)) c.loop-index.invariant c.in_ok-fits.fits c.in_ok-fits.ensures
    (λ map e. fit_stepped (test map) ps us vs i p u v lp lu lv c.index-lowers-index.is c.index-uppers-index.is (sym e ∙ c.if-not-fits.false))
    (λ symbols n. record {
      around = n.around;
      lower = in_list symbols us i u lu c.index-lowers-index.is n.lowers;
      upper = in_list symbols vs i v lv c.index-uppers-index.is n.uppers;
    })

pub returns : goal.returns
returns g c =
    let ps = c.args.params.now in let us = c.args.lowers.now in let vs = c.args.uppers.now in
    let i = c.loop-index.index in
    let all : length ps ≤ i = omega arith in
    ended c.loop-index.invariant true (λ map. fit_left (is_below map c.args.level.now.scope.now c.args.level.now.height) ps us vs i all c.requires.lowers c.requires.uppers)
