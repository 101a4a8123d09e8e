use Rattle.std.proofs.lemmas.Result.{IfOk-weaker}
use Rattle.phase_core.proofs.Edited.{records_by}
use Rattle.phase_core.proofs.edits.records_left.Goals as goal

pub returns : goal.returns
returns c = IfOk-weaker c.without.result _ _ (λ left gets. records_by c.args.records.now c.in_ok-records.records left c.args.evicted.now c.in_ok-records.ensures gets) c.without.ensures
