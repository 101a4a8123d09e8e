use Rattle.std.proofs.Common.{◌∙◌, Option, Some, ap, sym}
use Rattle.hack_types.specs.declared.hack_type.HackType.{HackType}
use Rattle.hack_rules.specs.Targets.{look_up, variable_or}
use Rattle.hack_rules.specs.Walks.{◌>>=◌, variable_here}
use Rattle.hack_walk.specs.Checks.{setting_of}
use Rattle.hack_walk.specs.WalkLaws.{step_pure, step_variable, steps_on}
use Rattle.hack_values.proofs.Stepping.{steps_as}
use Rattle.hack_values.proofs.variables.look_up.Goals as goal

pub returns-in_ok-copy-in-Some : goal.returns-in_ok-copy-in-Some
unfolding look_up
returns-in_ok-copy-in-Some c =
    let s = c.args.state.now in let name = c.args.name in
    steps_on (variable_or c.args.at name) (step_variable s name (Some c.in_ok-copy-in-Some.field-0) (ap (λ (t : HackType). Some t) c.in_ok-copy-in-Some.ensures ∙ c.in-Some.ensures))
    (step_pure s c.in_ok-copy-in-Some.field-0 (λ symbols n. n.1)) (λ symbols n. n)

pub returns-in-None : goal.returns-in-None
unfolding look_up ◌>>=◌ variable_here
returns-in-None c =
    let s = c.args.state.now in let at = c.args.at in let name = c.args.name in
    steps_as (look_up at name) c.refuse_variable.result c.refuse_variable.ensures
    (λ map. ap (λ (found : Option HackType). variable_or at name found (setting_of c.args.setting.now) map s) (sym c.in-None.ensures))
