use Rattle.std.proofs.Common.{sym, ap, ◌∙◌}
use Rattle.std.specs.FinMap as finite
use Rattle.phase_core.proofs.Orders.{symbol_total, symbol_same}
use Rattle.phase_core.proofs.Maps.{get_tree}
use Rattle.std.specs.Prelude.{is_some}
use Rattle.phase_core.proofs.symbol_map.SymbolMap.has.Goals as goal

pub returns : goal.returns
returns g c = c.contains_key.ensures ∙ ap is_some (sym (get_tree symbol_total symbol_same c.self.inside.by_symbol c.args.symbol) ∙ ap (λ m. finite.get m c.args.symbol) c.self.view_is)
