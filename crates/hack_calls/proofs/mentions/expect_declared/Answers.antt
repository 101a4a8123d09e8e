use Rattle.std.proofs.Common.{Option, ap}
use Rattle.hack_walk.specs.Checks.{setting_of}
use Rattle.hack_calls.specs.declared.mentions.Declared.{Declared}
use Rattle.hack_calls.specs.inside.Rows.{expect_declared}
use Rattle.hack_calls.proofs.Stepping.{steps_as}
use Rattle.hack_calls.proofs.mentions.expect_declared.Goals as goal

pub returns-in-Some : goal.returns-in-Some
returns-in-Some c =
    let at = c.args.at in let name = c.args.name in
    steps_as (expect_declared at name c.args.declared.now) c.expect_no_trait.result c.expect_no_trait.ensures
    (λ map. ap (λ (o : Option Declared). expect_declared at name o (setting_of c.args.setting.now) map c.args.state.now) c.in-Some.is)

pub returns-in-None : goal.returns-in-None
returns-in-None c =
    let at = c.args.at in let name = c.args.name in
    steps_as (expect_declared at name c.args.declared.now) c.report_unbound.result c.report_unbound.ensures
    (λ map. ap (λ (o : Option Declared). expect_declared at name o (setting_of c.args.setting.now) map c.args.state.now) c.in-None.is)
