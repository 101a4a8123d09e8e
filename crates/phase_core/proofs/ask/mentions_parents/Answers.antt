use Rattle.phase_core.proofs.Asking.{mentions_by}
use Rattle.phase_core.proofs.ask.mentions_parents.Goals as goal

pub returns-in-Some : goal.returns-in-Some
returns-in-Some c = mentions_by _ _ _ _ _ c.in-Some.ensures c.as_slice.ensures c.as_slice-in-Some.ensures c.has_symbols.ensures
