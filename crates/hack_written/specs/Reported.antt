-- A state with one more diagnostic.
use Rattle.std.specs.Prelude.{◌++◌, ◌∷◌, []}
use Rattle.hack_types.specs.declared.diag.Diag.{Diag}
use Rattle.hack_types.specs.declared.place.Place.{Place}
use Rattle.hack_diag.specs.Messages.{Message, diag_of}
use Rattle.hack_rules.specs.Walks.{Setting, State}

-- it goes behind those that stand
abbrev pub with_diag : Diag → State → State
with_diag diag state = record { variables = state.variables; found = state.found ++ diag ∷ [] }

-- of a message at a place
abbrev pub reported : Setting → Place → Message → State → State
reported setting at message state = with_diag (diag_of setting.names at message) state
