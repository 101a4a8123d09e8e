use Rattle.std.proofs.Common.{Option, Ok, ap}
use Rattle.hack_walk.specs.Checks.{setting_of}
use Rattle.hack_walk.specs.WalkLaws.{step_pure}
use Rattle.hack_calls.specs.declared.mentions.Declared.{Declared}
use Rattle.hack_new.specs.inside.Rows.{expect_number}
use Rattle.hack_new.proofs.Stepping.{steps_as}
use Rattle.hack_new.proofs.new.expect_number.Goals as goal

pub returns-in-None : goal.returns-in-None
returns-in-None c =
    let s = c.args.state.now in
    steps_as (expect_number c.args.name_at c.args.name c.args.count c.args.declared.now) (Ok tt) (step_pure s tt (λ symbols n. tt))
    (λ map. ap (λ (d : Option Declared). expect_number c.args.name_at c.args.name c.args.count d (setting_of c.args.setting.now) map s) c.in-None.is)
