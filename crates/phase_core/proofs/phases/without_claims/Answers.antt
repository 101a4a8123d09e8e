use Rattle.std.proofs.lemmas.Result.{IfOk-weaker}
use Rattle.phase_core.proofs.Edited.{without_claimed}
use Rattle.phase_core.proofs.phases.without_claims.Goals as goal

pub returns : goal.returns
returns c = IfOk-weaker c.without.result _ _ (λ rest h. without_claimed c.in_ok-claims.claims c.args.records.now rest c.in_ok-claims.ensures h) c.without.ensures
