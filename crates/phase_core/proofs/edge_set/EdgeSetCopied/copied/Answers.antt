use Rattle.std.proofs.Common.{ap, ◌∙◌}
use Rattle.std.specs.FinSet as set
use Rattle.std.specs.List.{each_same}
use Rattle.phase_core.proofs.edge_set.EdgeSetCopied.copied.Goals as goal

pub returns : goal.returns
returns c = ap (λ ks. set.from_list ks) (each_same _ _ c.in_ok-clone.ensures.cases) ∙ c.self.view_is
