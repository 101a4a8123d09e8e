use Rattle.std.proofs.Common.{sym, ◌∙◌}
use Rattle.phase_core.specs.World.{IsParent}
use Rattle.phase_core.proofs.Images.{reached_one, reaches_one}
use Rattle.phase_core.proofs.workers.is_inner_fold.Goals as goal

pub returns : goal.returns
returns c = (
  λ h. (c.if-not-edge.false, sym c.has.ensures ∙ c.if-not-has.false, reached_one (IsParent c.args.world.now) c.args.edge.now.from c.in_ok-closure.closure c.in_ok-closure.ensures c.args.edge.now.to (sym c.contains.ensures ∙ h)),
  λ m. c.contains.ensures ∙ reaches_one (IsParent c.args.world.now) c.args.edge.now.from c.in_ok-closure.closure c.in_ok-closure.ensures c.args.edge.now.to m.2,
)
