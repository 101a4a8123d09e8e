use Rattle.std.proofs.Common.{Bool, Ok, ap}
use Rattle.hack_walk.specs.Checks.{setting_of}
use Rattle.hack_walk.specs.WalkLaws.{step_pure}
use Rattle.hack_new.specs.inside.Rows.{without}
use Rattle.hack_new.proofs.Stepping.{steps_as}
use Rattle.hack_new.proofs.constructors.without_constructor.Goals as goal

pub returns-then-partial : goal.returns-then-partial
unfolding without
returns-then-partial c =
    let s = c.args.state.now in
    steps_as (without c.args.at c.args.partial c.args.given.now) (Ok tt) (step_pure s tt (λ symbols n. tt))
    (λ map. ap (λ (b : Bool). without c.args.at b c.args.given.now (setting_of c.args.setting.now) map s) c.if-partial.true)

pub returns : goal.returns
unfolding without
returns c =
    steps_as (without c.args.at c.args.partial c.args.given.now) c.expect_count.result c.expect_count.ensures
    (λ map. ap (λ (b : Bool). without c.args.at b c.args.given.now (setting_of c.args.setting.now) map c.args.state.now) c.if-partial.false)
