use Rattle.std.proofs.Common.{Ok, Option, ap}
use Rattle.hack_types.specs.declared.hack_type.HackType.{HackType}
use Rattle.hack_walk.specs.Checks.{setting_of}
use Rattle.hack_walk.specs.WalkLaws.{step_pure}
use Rattle.hack_calls.specs.inside.Rows.{expect_allowed}
use Rattle.hack_calls.proofs.Stepping.{steps_as}
use Rattle.hack_calls.proofs.mentions.expect_allowed.Goals as goal

pub returns-in-Some : goal.returns-in-Some
returns-in-Some c =
    let at = c.args.at in let word = c.args.word.now in
    steps_as (expect_allowed at word c.args.ty.now) (Ok tt) (step_pure c.args.state.now tt (λ symbols n. tt))
    (λ map. ap (λ (o : Option HackType). expect_allowed at word o (setting_of c.args.setting.now) map c.args.state.now) c.in-Some.is)
