use Rattle.std.proofs.Common.{ap, ◌∙◌}
use Rattle.std.specs.FinMap as finite
use Rattle.phase_core.proofs.Orders.{symbol_total, symbol_same}
use Rattle.phase_core.proofs.Maps.{insert_tree}
use Rattle.phase_core.proofs.symbol_map.SymbolMap.insert.Goals as goal

pub returns-clause-ok : goal.returns-clause-ok
returns-clause-ok g c = insert_tree symbol_total symbol_same c.self.inside.by_symbol c.insert.new.self c.args.symbol c.args.value c.in_ok-insert.ensures.updates ∙ ap (λ m. finite.insert m c.args.symbol c.args.value) c.self.view_is
