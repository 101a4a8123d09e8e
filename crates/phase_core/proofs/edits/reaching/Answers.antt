use Rattle.std.specs.Prelude.{Contains}
use Rattle.phase_core.proofs.Edited.{evicted_by}
use Rattle.phase_core.proofs.edits.reaching.Goals as goal

pub returns : goal.returns
returns c = evicted_by c.args.edges.now c.in_ok-turned.turned (λ t. Contains c.args.ends.now t) c.args.ends.now c.in_ok-reach.field-0 c.in_ok-turned.ensures (λ s. (λ h. h, λ h. h)) c.in_ok-reach.ensures
