use Rattle.std.proofs.Common.{subst, ◌↔◌}
use Rattle.std.specs.Prelude.{IsTrue, Contains}
use Rattle.std.specs.FinSet as set
use Rattle.phase_core.proofs.Orders.{symbol_total, symbol_same}
use Rattle.phase_core.proofs.Maps.{keys_set}
use Rattle.phase_core.proofs.symbol_set.SymbolSet.symbols.Goals as goal

pub returns : goal.returns
returns c = λ s. subst (λ m. Contains c.in_ok-keys_of.field-0.items s ↔ IsTrue (set.contains m s)) c.self.view_is (keys_set symbol_total symbol_same c.self.inside.symbols _ c.in_ok-keys_of.ensures s)
