use Rattle.std.proofs.Common.{sym, ap, ◌∙◌}
use Rattle.std.specs.FinSet as set
use Rattle.phase_core.proofs.Orders.{symbol_total, symbol_same}
use Rattle.phase_core.proofs.Maps.{contains_tree}
use Rattle.phase_core.proofs.symbol_set.SymbolSet.contains.Goals as goal

pub returns : goal.returns
returns c = c.contains.ensures ∙ sym (contains_tree symbol_total symbol_same c.self.inside.symbols c.args.symbol) ∙ ap (λ m. set.contains m c.args.symbol) c.self.view_is
