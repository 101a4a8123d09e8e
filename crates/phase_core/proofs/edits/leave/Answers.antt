use Rattle.std.proofs.Common.{refl}
use Rattle.phase_core.proofs.edits.leave.Goals as goal

pub returns : goal.returns
returns c = record {
  world_is = c.in_ok-state-5.ensures;
  records = c.in_ok-state.ensures;
  edges = c.in_ok-state-2.ensures;
  stale = c.in_ok-state-3.ensures;
  verdicts = c.in_ok-state-4.ensures;
  workers = refl;
  raised = refl;
}
