-- The tokens of a file as the grammar sees them: their kinds, places and names (docs/language.md, Names).
use Rattle.std.specs.Prelude.{◌≡◌, ◌≢◌, ◌<◌, ◌+◌, ◌-◌, ℕ, List, [], ◌∷◌, ◌++◌, slice_get, take, drop, Option, None, Some}
use denote.Ref.{Bor}
use Rattle.hack_types.specs.Names.{with_name}
use Rattle.hack_types.specs.Places.{place_of}
use Rattle.hack_lexer.specs.declared.kind.TokenKind.{TokenKind}
use Rattle.hack_lexer.specs.declared.kind.TokenKind.TheVariants as kind
use Rattle.hack_lexer.specs.declared.token.Token.{Token}
use Rattle.hack_lexer.specs.Forms.{content_of}
use Rattle.hack_lexer.specs.Kinds.{sort_of_kind}
use Rattle.hack_lexer.specs.Tokens.{text_of}
use Rattle.hack_parse_expr.specs.declared.lexeme.Lexeme.{Lexeme}

-- the name that a token of this kind and text spells: a variable without its `$`, a key string without its quotes
abbrev pub spelled : TokenKind → List ℕ → Option (List ℕ)
spelled kind.Name text = Some text
spelled kind.Variable text = Some (drop 1 text)
spelled kind.KeyText text = Some (content_of text)
spelled (kind.Keyword k) text = Some text
spelled _ text = None

-- the id of this text: it stands there among the names, and nowhere before
pub record IsIdOf (names : List (List ℕ)) (text : List ℕ) (id : ℕ) : Type 0 where
  pub there : slice_get names id ≡ Some text
  pub first : (other : ℕ) → other < id → slice_get names other ≢ Some text

-- the id of this name, and 0 where there is none
abbrev pub IsNamed : List (List ℕ) → Option (List ℕ) → ℕ → Type 0
IsNamed names None id = id ≡ 0
IsNamed names (Some text) id = IsIdOf names text id

-- this token of the bytes, with its name among these
pub record IsLexeme (names : List (List ℕ)) (bytes : List ℕ) (t : Token) (l : Lexeme) : Type 0 where
  pub kind : sort_of_kind l.kind ≡ t.sort
  pub at : l.at ≡ place_of bytes t.at
  pub first : l.first ≡ t.at
  pub behind : l.behind ≡ t.at + t.len
  pub name : IsNamed names (spelled l.kind (text_of bytes t)) l.name

abbrev pub AreLexemes : List (List ℕ) → List ℕ → List Token → List Lexeme → Type 0
AreLexemes names bytes [] [] = Unit {0}
AreLexemes names bytes (t ∷ ts) (l ∷ ls) = IsLexeme names bytes t l × AreLexemes names bytes ts ls
AreLexemes names bytes _ _ = ⊥

-- the names once this is one
abbrev pub with_spelled : List (List ℕ) → Option (List ℕ) → List (List ℕ)
with_spelled names None = names
with_spelled names (Some text) = with_name names text

-- the bytes from one index up to another
abbrev pub between : List ℕ → ℕ → ℕ → List ℕ
between bytes from to = take (to - from) (drop from bytes)

-- the names once those of these tokens are, in their order
abbrev pub with_names : List (List ℕ) → List ℕ → List Lexeme → List (List ℕ)
with_names names bytes [] = names
with_names names bytes (l ∷ ls) = with_names (with_spelled names (spelled l.kind (between bytes l.first l.behind))) bytes ls

-- every name keeps its id: others are added behind
abbrev pub Extends : List (List ℕ) → List (List ℕ) → Type 0
Extends old new = (added : List (List ℕ)) × (new ≡ old ++ added)

-- the bytes of a slice, where there is one
abbrev pub option_bytes : Option (Bor (List ℕ)) → Option (List ℕ)
option_bytes None = None
option_bytes (Some text) = Some text.now
