use Rattle.std.proofs.lemmas.Result.{on_ok_weaker}
use Rattle.phase_core.proofs.Edited.{edited_by}
use Rattle.phase_core.proofs.edits.edit_over.Goals as goal

pub returns : goal.returns
returns c = on_ok_weaker c.leave.result (λ left are. edited_by c.args.state.now _ c.args.world.now c.args.evicted.now c.in_ok-refreshed.refreshed are c.in_ok-refreshed.ensures left) c.leave.ensures
