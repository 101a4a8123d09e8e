use Rattle.std.proofs.Common.{◌∙◌, ◌+◌, ◌<◌, ◌≤◌, drop, get_or, length, sym, arith}
use Rattle.hack_operators.proofs.Asking.{by_place, ended, met, none_left, passed_by, stopped, went_on}
use Rattle.hack_operators.specs.declared.class.OperandClass.TheVariants.{Error, Other}
use Rattle.hack_operators.specs.inside.Asked.{asked, first_of, is_of}
use Rattle.hack_operators.proofs.asked.asked_class.Goals as goal

pub loop-class-preserved : goal.loop-class-preserved
loop-class-preserved g c =
    let i = c.loop-class.class-index in
    let x = get_or asked i Error in
    let lt : i < length asked = omega arith in
    went_on (λ map. first_of (is_of map c.args.scope.now c.args.ty.now) (drop (i + 1) asked)) c.loop-class.invariant c.in_ok-fits.fits c.in_ok-fits.ensures
    (λ map e. passed_by (is_of map c.args.scope.now c.args.ty.now) asked i x lt (by_place asked i Error x lt) (sym e ∙ c.if-fits.false))

pub returns-then-fits : goal.returns-then-fits
returns-then-fits g c =
    let i = c.loop-class.class-index in
    let x = get_or asked i Error in
    let lt : i < length asked = omega arith in
    stopped c.loop-class.invariant c.in_ok-fits.fits c.in_ok-fits.ensures x
    (λ map e. met (is_of map c.args.scope.now c.args.ty.now) asked i x lt (by_place asked i Error x lt) (sym e ∙ c.if-fits.true))

pub returns : goal.returns
returns g c =
    let i = c.loop-class.class-index in
    let all : length asked ≤ i = omega arith in
    ended c.loop-class.invariant Other (λ map. none_left (is_of map c.args.scope.now c.args.ty.now) asked i all)
