use Rattle.std.proofs.Common.{ap, ◌∙◌}
use Rattle.std.specs.FinSet as set
use Rattle.phase_core.proofs.Orders.{symbol_total, symbol_same}
use Rattle.phase_core.proofs.Maps.{insert_set}
use Rattle.phase_core.proofs.symbol_set.SymbolSet.insert.Goals as goal

pub returns-clause-ok : goal.returns-clause-ok
returns-clause-ok c = insert_set symbol_total symbol_same _ _ _ c.in_ok-insert.ensures.updates ∙ ap (λ m. set.insert m c.args.symbol) c.self.view_is
