-- What a question about wanted and given types names: which symbols a call may note, and what its answer names (docs/definitions.md,
-- Inference).
use Rattle.std.specs.Prelude.{List, All, IsTrue, map}
use Rattle.std.specs.Global.{Vec}
use Rattle.hack_types.specs.declared.hack_type.HackType.{HackType}
use Rattle.hack_decls.specs.DeclState.{Symbols}
use Rattle.hack_decls.specs.Names.{class_symbol, TypeIn}
use Rattle.hack_sub.specs.Parts.{keyed_container}
use Rattle.hack_infer.specs.declared.sight.Sight.{Sight}
use Rattle.hack_infer.specs.declared.sight.Sight.TheVariants as sight

-- what these types name, and `KeyedContainer`, is among these symbols
pub record PairsIn (symbols : Symbols) (Ws Gs : List HackType) : Type 0 where
  pub keyed : IsTrue (symbols (class_symbol keyed_container))
  pub wanted : All (TypeIn symbols) Ws
  pub given : All (TypeIn symbols) Gs

-- lists as they are answered
abbrev pub lists_of : List (Vec HackType) → List (List HackType)
lists_of lists = map (λ types. types.items) lists

-- each type in them
abbrev pub ListsIn : Symbols → List (List HackType) → Type 0
ListsIn symbols found = All (λ types. All (TypeIn symbols) types) found

-- what an alias stands for names only these symbols
abbrev pub SightIn : Symbols → Sight → Type 0
SightIn symbols (sight.Alias next) = TypeIn symbols next
SightIn symbols _ = Unit {0}
