use Rattle.std.proofs.Common.{subst, ◌↔◌}
use Rattle.std.specs.Prelude.{IsSome, Contains}
use Rattle.std.specs.FinMap as finite
use Rattle.phase_core.proofs.Orders.{symbol_total, symbol_same}
use Rattle.phase_core.proofs.Maps.{keys_tree}
use Rattle.phase_core.proofs.symbol_map.SymbolMap.symbols.Goals as goal

pub returns : goal.returns
returns g c = λ s. subst (λ m. Contains c.in_ok-keys_of.field-0.items s ↔ IsSome (finite.get m s)) c.self.view_is (keys_tree symbol_total symbol_same c.self.inside.by_symbol _ c.in_ok-keys_of.ensures s)
