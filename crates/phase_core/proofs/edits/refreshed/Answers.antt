use Rattle.std.specs.FinSet as set
use Rattle.std.proofs.lemmas.Result.{IfOk-weaker}
use Rattle.phase_core.proofs.Edited.{refreshed_by}
use Rattle.phase_core.proofs.edits.refreshed.Goals as goal

pub returns : goal.returns
returns c =
    IfOk-weaker c.renewed.result _ _ (λ fresh are u.
    refreshed_by c.args.state.now c.args.world.now c.in_ok-lookers.lookers c.args.evicted.now (set.contains fresh u) u (c.in_ok-lookers.ensures u) (are u)) c.renewed.ensures
