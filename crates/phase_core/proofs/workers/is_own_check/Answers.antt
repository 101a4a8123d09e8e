use Rattle.phase_core.specs.Workers.{IsWithin}
use Rattle.phase_core.proofs.Deciding.{after_three}
use Rattle.phase_core.proofs.workers.is_own_check.Goals as goal

pub returns : goal.returns
returns c = after_three c.is_within.result (IsWithin c.args.world.now c.args.symbol.now c.args.known.now c.args.edge.now.to) c.if-not-check.false c.if-edge.false (c.same.ensures.0 c.if-not-same.false) c.is_within.ensures
