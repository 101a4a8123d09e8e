use Rattle.std.proofs.Common.{ap, ◌∙◌}
use Rattle.std.specs.FinSet as set
use Rattle.phase_core.proofs.Orders.{symbol_total, symbol_same}
use Rattle.phase_core.proofs.Maps.{remove_set}
use Rattle.phase_core.proofs.symbol_set.SymbolSet.remove.Goals as goal

pub returns : goal.returns
returns c = remove_set symbol_total symbol_same c.self.inside.symbols c.remove.new.self c.args.symbol c.remove.ensures.updates ∙ ap (λ m. set.remove m c.args.symbol) c.self.view_is
