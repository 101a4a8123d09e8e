-- What the laws of declarations speak of.
use Rattle.std.specs.Prelude.{◌≡◌, List, [], ◌∷◌, Option, None, Some, Bool, false}
use Rattle.std.specs.List.{AllByRecursion}
use Rattle.std.specs.Ordering.{ordering_then, is_gt, is_eq}
use Rattle.hack_base.specs.Files.{byte_order}
use Rattle.hack_types.specs.Report.{place_order}
use Rattle.hack_types.specs.declared.place.Place.{Place}
use Rattle.hack_names.specs.declared.unit.UnitHead.{UnitHead}
use Rattle.hack_names.specs.Declarations.{Declaration}

-- one is not behind the other: by file, then by place
abbrev pub IsUpTo : Declaration → Declaration → Type 0
IsUpTo a b = is_gt (ordering_then (byte_order a.file b.file) (place_order a.head.at b.head.at)) ≡ false

-- none is behind a later one
abbrev pub AreInOrder : List Declaration → Type 0
AreInOrder [] = Unit {0}
AreInOrder (d ∷ ds) = AllByRecursion (IsUpTo d) ds × AreInOrder ds

-- whether it starts at this place
abbrev pub starts_at : Place → UnitHead → Bool
starts_at place head = is_eq (place_order place head.at)

-- the declaration, where there is one
abbrev pub listed : Option Declaration → List Declaration
listed None = []
listed (Some d) = d ∷ []
