-- The rows of a `foreach` in the pieces that the functions are.
use Rattle.std.specs.Prelude.{Option, Some, None, List, [], ◌∷◌}
use Rattle.hack_types.specs.declared.hack_type.HackType.{HackType, out-HackType}
use Rattle.hack_types.specs.declared.place.Place.{Place}
use Rattle.hack_decls.specs.DeclState.{Symbols}
use Rattle.hack_decls.specs.Names.{TypeIn}
use Rattle.hack_rules.specs.Heads.{head_of}
use Rattle.hack_rules.specs.Loops.{types_by}
use Rattle.hack_rules.specs.Walks.{Walk, ◌>>=◌, reads}

-- all that the types of key and value name is among these symbols
abbrev pub TypesIn : Symbols → HackType × HackType → Type 0
TypesIn symbols types = TypeIn symbols types.0 × TypeIn symbols types.1

-- the types of key and value of a subject of this type
unfoldable pub head_types : Place → HackType → Walk (HackType × HackType)
head_types at ty = do
  head ← reads (λ map scope. head_of map scope ty)
  types_by at head (out-HackType head)

-- two arguments
abbrev pub two_of : Option (List HackType) → Option (HackType × HackType)
two_of (Some (key ∷ value ∷ [])) = Some (key, value)
two_of _ = None

-- one argument
abbrev pub one_of : Option (List HackType) → Option HackType
one_of (Some (value ∷ [])) = Some value
one_of _ = None
