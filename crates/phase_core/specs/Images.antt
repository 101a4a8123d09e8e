-- The image of a symbol in a world, which stands for its folded declaration.
use Rattle.std.specs.Prelude.{◌≡◌, Option, Some, IsSome}
use Rattle.std.specs.FinMap.{FinMap, get}
use Rattle.hack_types.specs.declared.ids.SymbolId.{SymbolId}
use Rattle.phase_core.specs.declared.state.CoreSeen.{CoreSeen}
use Rattle.phase_core.specs.Orders.{symbol_order}
use Rattle.phase_core.specs.World.{World, seen_at}
use Rattle.phase_core.specs.Closures.{InClosure}

abbrev pub Image : Type 0
Image = FinMap symbol_order (Option CoreSeen)

-- the images of the symbols that somebody looked at
abbrev pub Known : Type 0
Known = FinMap symbol_order Image

-- this is the image of s
pub record IsImage (world : World) (s : SymbolId) (image : Image) : Type 0 where
  -- each symbol of the closure stands in it with what is seen of it, an undeclared one with nothing
  pub inside : (t : SymbolId) → InClosure world s t → get image t ≡ Some (seen_at world t)
  -- and no other symbol does
  pub only : (t : SymbolId) → IsSome (get image t) → InClosure world s t
