use Rattle.std.proofs.Common.{◌∙◌, ap}
use Rattle.hack_rules.specs.Variables.{with_variable}
use Rattle.hack_types.specs.declared.hack_type.HackType.{HackType}
use Rattle.hack_walk.specs.WalkLaws.{step_assign}
use Rattle.hack_flow.proofs.foreach_turns.assign_value.Goals as goal

pub returns : goal.returns
returns c =
    step_assign c.args.state.now c.assign.new.self c.args.name c.args.ty.now
    (c.in_ok-assign.ensures.variables ∙ ap (λ (t : HackType). with_variable c.args.state.now.variables c.args.name t) c.in_ok-ty.ensures)
    c.in_ok-assign.ensures.found (λ symbols n. n)
