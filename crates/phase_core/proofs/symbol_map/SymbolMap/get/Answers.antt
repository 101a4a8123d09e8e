use Rattle.std.proofs.Common.{sym, ap, ◌∙◌}
use Rattle.std.specs.FinMap as finite
use Rattle.phase_core.proofs.Orders.{symbol_total, symbol_same}
use Rattle.phase_core.proofs.Maps.{get_tree}
use Rattle.phase_core.proofs.symbol_map.SymbolMap.get.Goals as goal

pub returns : goal.returns
returns g c = c.get.ensures.value ∙ sym (get_tree symbol_total symbol_same c.self.inside.by_symbol c.args.symbol) ∙ ap (λ m. finite.get m c.args.symbol) c.self.view_is
