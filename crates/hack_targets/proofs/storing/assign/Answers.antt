use Rattle.hack_walk.specs.WalkLaws.{step_assign}
use Rattle.hack_targets.proofs.storing.assign.Goals as goal

pub returns : goal.returns
returns c = step_assign c.args.state.now c.assign.new.self c.args.name c.args.ty c.in_ok-assign.ensures.variables c.assign.ensures.found (λ symbols n. n)
