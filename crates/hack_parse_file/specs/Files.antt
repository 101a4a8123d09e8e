-- The tree of a file, and its fault (docs/language.md, Grammar).
use Rattle.std.specs.Prelude.{◌≡◌, ◌≢◌, ◌⊎◌, ◌==◌, ◌+◌, ◌-◌, ◌^◌, if◌then◌else◌, min, ℕ, List, [], map, length}
use Rattle.hack_types.specs.declared.place.Place.{Place}
use Rattle.hack_types.specs.declared.ids.SymbolId.{SymbolId}
use Rattle.hack_types.specs.declared.ids.Kind.{Kind}
use Rattle.hack_types.specs.declared.ids.Kind.TheVariants as kinds
use Rattle.hack_types.specs.Places.{place_of}
use Rattle.hack_lexer.specs.declared.token.Token.{Token}
use Rattle.hack_lexer.specs.Tokens.{AreTokens, IsFault}
use Rattle.hack_tree.specs.declared.declaration.DeclaredName.{DeclaredName}
use Rattle.hack_tree.specs.declared.declaration.UnitTree.{UnitTree}
use Rattle.hack_tree.specs.declared.declaration.UnitTree.TheVariants as unit
use Rattle.hack_tree.specs.declared.declaration.Unit.{Unit as UnitOf}
use Rattle.hack_tree.specs.declared.declaration.FileTree.{FileTree}
use Rattle.hack_parse_expr.specs.declared.lexeme.Lexeme.{Lexeme}
use Rattle.hack_parse_expr.specs.declared.stop.ParseStop.{ParseStop}
use Rattle.hack_parse_expr.specs.declared.stop.ParseStop.TheVariants.{Fault, NoMemory}
use Rattle.hack_parse_expr.specs.Input.{Input, refusal}
use Rattle.hack_parse_expr.specs.Symbols.{File, Declared, rule}
use Rattle.hack_parse_expr.specs.Rows.{begins_declaration}
use Rattle.hack_parse_expr.specs.Parsers.{Parser, ◌<$>◌, many_of, at_front}
use Rattle.hack_parse_expr.specs.Run.{Stands, Fails}
use Rattle.hack_parse_decl.specs.Declarations.{declaration}
use Rattle.hack_parse_file.specs.Lexemes.{AreLexemes, with_names, between}

-- ---- units

-- the name that a declaration declares
abbrev pub name_of : UnitTree → DeclaredName
name_of (unit.Function attributes callable body) = callable.name
name_of (unit.Class attributes modifiers name types extends implements members) = name
name_of (unit.Interface attributes name types extends members) = name
name_of (unit.Trait attributes name types implements members) = name
name_of (unit.Enum attributes name base bound cases) = name
name_of (unit.Alias attributes name types aliased) = name
name_of (unit.Constant attributes written name value) = name

-- what it is declared as: a function, a constant, or what is looked up as a class
abbrev pub kind_of : UnitTree → Kind
kind_of (unit.Function attributes callable body) = kinds.Func
kind_of (unit.Constant attributes written name value) = kinds.Const
kind_of _ = kinds.Class

abbrev pub symbol_of : UnitTree → SymbolId
symbol_of tree = record { kind = kind_of tree; name = (name_of tree).name }

-- places count no further, and no file is so long
abbrev pub counted : ℕ → ℕ
counted n = min n (2 ^ 32 - 1)

-- where a place of a declaration stands in the file, in which the declaration starts here
abbrev pub absolute : Place → Place → Place
absolute start at =
    if at.line == 0 then record { line = start.line; column = counted (start.column + at.column) }
    else record { line = counted (start.line + at.line); column = at.column }

-- a declaration that starts here in the file, with this text
abbrev pub unit_at : Place → List ℕ → UnitTree → UnitOf
unit_at start text tree = record {
  symbol = symbol_of tree;
  start = start;
  name_at = absolute start (name_of tree).at;
  text = text;
  tree = tree;
}

-- a declaration where it stands in the file
abbrev pub unit_of : List ℕ → Declared → UnitOf
unit_of bytes d = unit_at d.first.at (between bytes d.first.first d.behind) d.tree

-- the parsers of units
unfoldable pub unit_read : List ℕ → Parser UnitOf
unit_read bytes = unit_of bytes <$> declaration

unfoldable pub units : List ℕ → Parser (List UnitOf)
units bytes = many_of begins_declaration (unit_read bytes)

-- ---- trees and faults

-- the place behind the last byte
abbrev pub end_of : List ℕ → Place
end_of bytes = place_of bytes (length bytes)

-- the tokens of the bytes as the grammar sees them, with their names among these
pub record IsInput (names : List (List ℕ)) (bytes : List ℕ) (lexemes : List Lexeme) : Type 0 where
  pub tokens : List Token
  pub cut : AreTokens bytes tokens
  pub lexed : AreLexemes names bytes tokens lexemes

-- the bytes have this tree, where the names of their tokens are among these: the tokens are declarations, one after
-- another, and nothing else
pub record IsTree (names : List (List ℕ)) (bytes : List ℕ) (tree : FileTree) : Type 0 where
  pub lexemes : List Lexeme
  pub input : IsInput names bytes lexemes
  pub declared : List Declared
  pub rest : Input
  pub stands : Stands (rule File) (at_front lexemes (end_of bytes)) declared rest
  pub all : rest.left ≡ []
  pub units : tree.units ≡ map (unit_of bytes) declared

-- the same where to these names before it those of the tokens were added
pub record IsFileTree (before names : List (List ℕ)) (bytes : List ℕ) (tree : FileTree) : Type 0 where
  pub lexemes : List Lexeme
  pub input : IsInput names bytes lexemes
  pub named : names ≡ with_names before bytes lexemes
  pub declared : List Declared
  pub rest : Input
  pub stands : Stands (rule File) (at_front lexemes (end_of bytes)) declared rest
  pub all : rest.left ≡ []
  pub units : tree.units ≡ map (unit_of bytes) declared

-- declarations that end before the last token, with this refusal of the token behind them
pub record IsLeftOver (i : Input) (stop : ParseStop) : Type 0 where
  pub declared : List Declared
  pub rest : Input
  pub stands : Stands (rule File) i declared rest
  pub more : rest.left ≢ []
  pub refused : refusal rest ≡ stop

-- these tokens, behind which the text ends at the first place, have this fault of the grammar at the second: they can't be read
-- as declarations, or a token is left behind the last declaration
abbrev pub HasGrammarFault : List Lexeme → Place → Place → ℕ → Type 0
HasGrammarFault lexemes end place code =
    Fails (rule File) (at_front lexemes end) (Fault place code) ⊎ IsLeftOver (at_front lexemes end) (Fault place code)

-- the bytes have tokens, and this fault of the grammar
pub record IsGrammarFault (bytes : List ℕ) (place : Place) (code : ℕ) : Type 0 where
  pub names : List (List ℕ)
  pub lexemes : List Lexeme
  pub input : IsInput names bytes lexemes
  pub fault : HasGrammarFault lexemes (end_of bytes) place code

-- the same, and these are the names once those of all tokens were added to the names before
pub record IsGrammarRefused (before names : List (List ℕ)) (bytes : List ℕ) (place : Place) (code : ℕ) : Type 0 where
  pub lexemes : List Lexeme
  pub input : IsInput names bytes lexemes
  pub named : names ≡ with_names before bytes lexemes
  pub fault : HasGrammarFault lexemes (end_of bytes) place code

-- the fault of the bytes: that of their tokens, or else that of the grammar
abbrev pub IsFileFault : List ℕ → Place → ℕ → Type 0
IsFileFault bytes place code = IsFault bytes place code ⊎ IsGrammarFault bytes place code

-- the fault of the bytes, with the names before they are read and after: a fault of the tokens adds none, and one of the grammar
-- those of all tokens
abbrev pub IsFileRefused : List (List ℕ) → List (List ℕ) → List ℕ → Place → ℕ → Type 0
IsFileRefused before names bytes place code =
    (IsFault bytes place code × (names ≡ before)) ⊎ IsGrammarRefused before names bytes place code

-- a stop is the fault, or want of memory, of which nothing is said
abbrev pub IsFileStop : List (List ℕ) → List (List ℕ) → List ℕ → ParseStop → Type 0
IsFileStop before names bytes (Fault place code) = IsFileRefused before names bytes place code
IsFileStop before names bytes NoMemory = Unit {0}
