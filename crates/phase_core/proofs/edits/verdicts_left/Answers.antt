use Rattle.std.proofs.lemmas.Result.{IfOk-weaker}
use Rattle.phase_core.proofs.Edited.{verdicts_by}
use Rattle.phase_core.proofs.edits.verdicts_left.Goals as goal

pub returns : goal.returns
returns c =
    IfOk-weaker c.without.result _ _ (λ left gets. verdicts_by c.args.verdicts.now left c.args.world.now c.args.refreshed.now c.in_ok-outdated.outdated c.in_ok-outdated.ensures gets) c.without.ensures
