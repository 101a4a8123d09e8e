-- Which bytes are a list of first units (docs/language.md, First units).
use Rattle.std.specs.Prelude.{◌≡◌, ◌⊎◌, ◌==◌, if◌then◌else◌, ℕ, List, [], ◌∷◌, ◌++◌, map}
use Rattle.hack_lexer.specs.declared.kind.TokenKind.{TokenKind}
use Rattle.hack_lexer.specs.declared.kind.TokenKind.TheVariants as kind
use Rattle.hack_lexer.specs.declared.kind.Mark.{Mark}
use Rattle.hack_lexer.specs.declared.kind.Mark.TheVariants as marks
use Rattle.hack_lexer.specs.declared.kind.Keyword.{Keyword}
use Rattle.hack_lexer.specs.declared.kind.Keyword.TheVariants as keywords
use Rattle.hack_lexer.specs.declared.token.Token.{Token}
use Rattle.hack_lexer.specs.Kinds.{sort_of_kind}
use Rattle.hack_lexer.specs.Tokens.{AreTokens, text_of}
use Rattle.hack_types.specs.declared.place.Place.{Place}
use Rattle.hack_types.specs.Places.{place_of}
use Rattle.hack_first.specs.declared.unit.Primitive.{Primitive}
use Rattle.hack_first.specs.declared.unit.Primitive.TheVariants.{Int, Str}
use Rattle.hack_first.specs.Functions.{Function, Value, OfType, OfCall}

-- a token without its place: the number of its kind, and its text where that counts
abbrev pub Lexeme : Type 0
Lexeme = ℕ × List ℕ

-- the text of a name counts, and no other does
abbrev pub counted_text : ℕ → List ℕ → List ℕ
counted_text sort text = if sort == sort_of_kind kind.Name then text else []

abbrev pub lexeme : List ℕ → Token → Lexeme
lexeme bytes t = (t.sort, counted_text t.sort (text_of bytes t))

abbrev pub name : List ℕ → Lexeme
name text = (sort_of_kind kind.Name, text)

abbrev pub mark : Mark → Lexeme
mark m = (sort_of_kind (kind.Mark m), [])

abbrev pub keyword : Keyword → Lexeme
keyword k = (sort_of_kind (kind.Keyword k), [])

abbrev pub type_keyword : Primitive → Keyword
type_keyword Int = keywords.Int
type_keyword Str = keywords.String

-- `function NAME ( ) : TYPE { return`
abbrev pub opening : Function → List Lexeme
opening f =
    keyword keywords.Function ∷ name f.name ∷ mark marks.OpenParen ∷ mark marks.CloseParen ∷ mark marks.Colon ∷ keyword (type_keyword f.result)
    ∷ mark marks.OpenBrace ∷ keyword keywords.Return ∷ []

-- `; }`
abbrev pub closing : List Lexeme
closing = mark marks.Semicolon ∷ mark marks.CloseBrace ∷ []

-- one token of this kind
abbrev pub IsOne : TokenKind → List Lexeme → Type 0
IsOne k lexemes = (text : List ℕ) × (lexemes ≡ (sort_of_kind k, text) ∷ [])

-- an int, a string, which may be a key string, or `NAME ( )`
abbrev pub IsSpelled : Value → List Lexeme → Type 0
IsSpelled (OfType Int) lexemes = IsOne kind.Int lexemes
IsSpelled (OfType Str) lexemes = IsOne kind.Text lexemes ⊎ IsOne kind.KeyText lexemes
IsSpelled (OfCall called) lexemes = lexemes ≡ name called ∷ mark marks.OpenParen ∷ mark marks.CloseParen ∷ []

-- the first of the tokens stands at this place
abbrev pub BeginsAt : List ℕ → List Token → Place → Type 0
BeginsAt bytes [] at = ⊥
BeginsAt bytes (t ∷ ts) at = at ≡ place_of bytes t.at

-- the second of the tokens stands at this place
abbrev pub SecondAt : List ℕ → List Token → Place → Type 0
SecondAt bytes (first ∷ t ∷ ts) at = at ≡ place_of bytes t.at
SecondAt bytes _ at = ⊥

-- the tokens are this function's, all of them; its name is the second of them
pub record IsUnit (bytes : List ℕ) (tokens : List Token) (f : Function) : Type 0 where
  pub front : List Token
  pub value : List Token
  pub back : List Token
  pub parts : tokens ≡ front ++ value ++ back
  pub opens : map (lexeme bytes) front ≡ opening f
  pub named : SecondAt bytes front f.name_at
  pub returns : IsSpelled f.value (map (lexeme bytes) value)
  pub placed : BeginsAt bytes value f.at
  pub closes : map (lexeme bytes) back ≡ closing

-- the tokens are these functions', one after another
abbrev pub AreUnits : List ℕ → List Token → List Function → Type 0
AreUnits bytes tokens [] = tokens ≡ []
AreUnits bytes tokens (f ∷ fs) =
    (front : List Token) × (rest : List Token) × (tokens ≡ front ++ rest) × IsUnit bytes front f × AreUnits bytes rest fs

-- the bytes are these functions, with blanks between their tokens, and nothing else
abbrev pub IsFirstBody : List ℕ → List Function → Type 0
IsFirstBody bytes functions = (tokens : List Token) × AreTokens bytes tokens × AreUnits bytes tokens functions
