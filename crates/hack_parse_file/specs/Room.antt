-- How many names there may be, and when there is room for those of a text (docs/language.md, Names).
use Rattle.std.specs.Prelude.{◌≤◌, ◌-◌, ◌^◌, ℕ, List, length}
use Rattle.hack_parse_expr.specs.declared.lexeme.Lexeme.{Lexeme}
use Rattle.hack_parse_file.specs.Lexemes.{with_names}
use Rattle.hack_parse_file.specs.Files.{IsInput}

-- a file may have so many bytes (docs/script.md, Limits)
abbrev pub most_bytes : ℕ
most_bytes = 2 ^ 20

-- there may be so many names
abbrev pub most_names : ℕ
most_names = 2 ^ 30 - 1

-- there is room for the names of these bytes: with those of their tokens there are no more names than there may be. Where
-- the tokens have a fault no name is added, and no room is needed
unfoldable pub HasRoom : List (List ℕ) → List ℕ → Type 0
HasRoom names bytes =
    (lexemes : List Lexeme) → IsInput (with_names names bytes lexemes) bytes lexemes → length (with_names names bytes lexemes) ≤ most_names
