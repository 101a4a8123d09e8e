use Rattle.std.proofs.Common.{◌∙◌, Option, ap}
use Rattle.hack_rules.specs.Variables.{Variables, either}
use Rattle.hack_flow.proofs.Ending.{step_behind}
use Rattle.hack_flow.proofs.passes.behind_loop.Goals as goal

pub returns : goal.returns
returns c =
    step_behind c.args.state.now c.leave_at.new.state c.args.last c.in_ok-normal.normal c.leave_at.result
    (c.in_ok-normal.ensures ∙ ap (λ (b : Option Variables). either b c.into_leaves-behind.result.1) c.into_leaves-behind.ensures.behind ∙ ap (λ (b : Option Variables). either c.args.last.behind b) c.into_leaves-behind.ensures.breaks)
    c.leave_at.ensures.exits c.leave_at.ensures.variables c.leave_at.ensures.found
