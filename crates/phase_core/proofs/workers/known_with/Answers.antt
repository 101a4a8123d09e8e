use Rattle.std.proofs.Common.{ap, ◌∙◌}
use Rattle.std.specs.FinMap as finite
use Rattle.phase_core.specs.Images.{Known}
use Rattle.phase_core.proofs.workers.known_with.Goals as goal

pub returns : goal.returns
returns c = c.in_ok-insert.ensures.ok ∙ ap (λ (k : Known). finite.insert k c.args.symbol c.args.image) c.in_ok-more.ensures
