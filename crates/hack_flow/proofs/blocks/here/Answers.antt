use Rattle.hack_flow.proofs.Ending.{step_here}
use Rattle.hack_flow.proofs.blocks.here.Goals as goal

pub returns : goal.returns
returns c = step_here c.args._state.now
