-- What an index and a target name.
use Rattle.std.specs.Prelude.{IfSome}
use Rattle.hack_decls.specs.DeclState.{Symbols}
use Rattle.hack_decls.specs.Names.{TypeIn}
use Rattle.hack_rules.specs.Meanings.{Aim, Index, element, other, property, variable}

-- all that the type of an index names is among these symbols
abbrev pub IndexIn : Symbols → Index → Type 0
IndexIn symbols index = TypeIn symbols index.ty

-- all that the types in a target name is among these symbols
abbrev pub AimIn : Symbols → Aim → Type 0
AimIn symbols (variable at name) = Unit {0}
AimIn symbols (property ty) = TypeIn symbols ty
AimIn symbols (element at base ty index) = AimIn symbols base × TypeIn symbols ty × IfSome index (IndexIn symbols)
AimIn symbols (other at ty) = TypeIn symbols ty
