-- Places in a text (docs/script.md, Places).
use Rattle.std.specs.Prelude.{◌+◌, ◌==◌, if◌then◌else◌, ℕ, List, [], ◌∷◌, take}
use Rattle.hack_types.specs.declared.place.Place.{Place}

-- the place behind a byte that stands at this place: LF ends the line, and every other byte is one column
abbrev pub behind : Place → ℕ → Place
behind at byte = if byte == 10 then record { line = at.line + 1; column = 1 } else record { line = at.line; column = at.column + 1 }

-- the place behind these bytes, where the first stands at this place
abbrev pub behind_all : Place → List ℕ → Place
behind_all at [] = at
behind_all at (byte ∷ bytes) = behind_all (behind at byte) bytes

-- the place of the byte at this index of a file: lines and columns count from 1
abbrev pub place_of : List ℕ → ℕ → Place
place_of bytes index = behind_all (record { line = 1; column = 1 }) (take index bytes)
