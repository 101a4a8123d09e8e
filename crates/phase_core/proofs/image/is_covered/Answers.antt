use Rattle.phase_core.proofs.Images.{covered_by}
use Rattle.phase_core.proofs.image.is_covered.Goals as goal

pub returns : goal.returns
returns c =
    let both = covered_by c.args.world.now c.args.edges.now c.args.symbol.now c.in_ok-closure.closure c.in_ok-folds.folds c.deref.result.now c.in_ok-closure.ensures c.in_ok-folds.ensures c.deref.ensures.value in
    (λ h. both.0 (c.has_all.ensures.0 h), λ h. c.has_all.ensures.1 (both.1 h))
