-- What the diagnostic of a file that has no tree says (docs/language.md, Diagnostics).
use Rattle.std.specs.Prelude.{◌==◌, if◌then◌else◌, ℕ}
use Rattle.hack_codes.specs.Numbers.{number}
use Rattle.hack_codes.specs.declared.code.Code.TheVariants as code
use Rattle.hack_diag.specs.Messages.{diag}
use Rattle.hack_diag.specs.Texts as text
use Rattle.hack_types.specs.declared.place.Place.{Place}
use Rattle.hack_types.specs.declared.diag.Diag.{Diag}

-- the diagnostic of a fault with this number at this place
abbrev pub fault_diag : Place → ℕ → Diag
fault_diag place found =
    if found == number code.NoToken then diag place code.NoToken text.no_token else
    if found == number code.UnexpectedToken then diag place code.UnexpectedToken text.unexpected_token else
    if found == number code.IntTooLarge then diag place code.IntTooLarge text.int_too_large else
    if found == number code.TooDeep then diag place code.TooDeep text.too_deep else
    diag place code.UnexpectedEnd text.unexpected_end
