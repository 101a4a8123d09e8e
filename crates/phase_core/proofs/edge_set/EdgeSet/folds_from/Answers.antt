use Rattle.std.proofs.Common.{subst, ◌↔◌}
use Rattle.std.specs.Prelude.{IsTrue, Contains}
use Rattle.std.specs.FinSet as set
use Rattle.phase_core.proofs.Folds.{folds_found}
use Rattle.std.proofs.Common.{true}
use Rattle.phase_core.proofs.edge_set.EdgeSet.folds_from.Goals as goal

pub returns : goal.returns
returns c = λ t. subst (λ m. Contains c.in_ok-folds_among.field-0.items t ↔ IsTrue (set.contains m (record { fold = true; from = c.args.from; to = t }))) c.self.view_is (folds_found c.args.from c.self.inside.edges _ c.folds_among.ensures.ordered c.in_ok-folds_among.ensures.list t)
