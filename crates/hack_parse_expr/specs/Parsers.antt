-- Parsers as functions of what is left of a text: what the code's functions are held against. What a text means is said by
-- the grammar's runs (specs/Run.antt); the laws in proofs/ show that the parsers read what the runs read.
use Rattle.std.specs.Prelude.{◌≡◌, ◌≢◌, if◌then◌else◌, ℕ, zero, suc, Bool, List, [], ◌∷◌, ◌++◌, length, Option, None, Some, Result, Ok, Err}
use Rattle.hack_types.specs.declared.place.Place.{Place}
use Rattle.hack_lexer.specs.declared.kind.Mark.TheVariants.{Comma}
use Rattle.hack_parse_expr.specs.declared.lexeme.Lexeme.{Lexeme}
use Rattle.hack_parse_expr.specs.declared.stop.ParseStop.{ParseStop}
use Rattle.hack_parse_expr.specs.declared.stop.ParseStop.TheVariants.{NoMemory}
use Rattle.hack_parse_expr.specs.Input.{Input, relative, refusal, too_deep, shown, past}
use Rattle.hack_parse_expr.specs.Symbols.{Terminal, Mark_}
use Rattle.hack_parse_expr.specs.Rows.{sees}

abbrev pub Outcome : Type 0 → Type 0
Outcome A = Result (A × Input) ParseStop

abbrev pub Parser : Type 0 → Type 0
Parser A = Input → Outcome A

abbrev pub and_then : {A B : Type 0} → Outcome A → (A → Parser B) → Outcome B
and_then (Ok p) f = f p.0 p.1
and_then (Err e) f = Err e

infixl 10 ◌>>=◌
abbrev pub ◌>>=◌ : {A B : Type 0} → Parser A → (A → Parser B) → Parser B
p >>= f = λ i. and_then (p i) f

infixl 10 ◌>>◌
abbrev pub ◌>>◌ : {A B : Type 0} → Parser A → Parser B → Parser B
p >> q = p >>= (λ _. q)

abbrev pub pure : {A : Type 0} → A → Parser A
pure a = λ i. Ok (a, i)

infixr 11 ◌<$>◌
abbrev pub ◌<$>◌ : {A B : Type 0} → (A → B) → Parser A → Parser B
f <$> p = p >>= (λ x. pure (f x))

abbrev pub refuse : {A : Type 0} → Parser A
refuse = λ i. Err (refusal i)

abbrev pub refuse_depth : {A : Type 0} → Parser A
refuse_depth = λ i. Err (too_deep i)

abbrev pub next_from : Input → List Lexeme → Input
next_from i [] = i
next_from i (t ∷ ts) = past i t ts

-- the input behind the next token
unfoldable pub next : Input → Input
next i = next_from i i.left

abbrev pub token_of : Input → List Lexeme → Outcome Lexeme
token_of i [] = Err (refusal i)
token_of i (t ∷ ts) = Ok (shown i t, past i t ts)

-- the next token, whatever it is
unfoldable pub token : Parser Lexeme
token = λ i. token_of i i.left

-- the next token, if it is this one
unfoldable pub expect : Terminal → Parser Lexeme
expect terminal = λ i. if sees terminal i.left then token i else refuse i

abbrev pub place_in : Input → List Lexeme → Outcome Place
place_in i [] = Err (refusal i)
place_in i (t ∷ ts) = Ok (relative i.start t.at, i)

-- the place of the next token
unfoldable pub place : Parser Place
place = λ i. place_in i i.left

abbrev pub starting_at : Input → List Lexeme → Outcome Lexeme
starting_at i [] = Err (refusal i)
starting_at i (t ∷ ts) = Ok (t, record i { start = t.at })

-- a declaration begins at the next token
unfoldable pub starting : Parser Lexeme
starting = λ i. starting_at i i.left

-- the index of the byte behind the last token that was taken
abbrev pub finishing : Parser ℕ
finishing = λ i. Ok (i.behind, i)

-- the tokens of a file, before the first
abbrev pub at_front : List Lexeme → Place → Input
at_front left end = record { left = left; start = record { line = 1; column = 1 }; behind = 0; end = end }

-- takes the next token, if it is this one
unfoldable pub after : Terminal → Input → Input
after terminal i = if sees terminal i.left then next i else i

abbrev pub eat : Terminal → Parser Bool
eat terminal = λ i. Ok (sees terminal i.left, after terminal i)

-- [x]
abbrev pub optionally : {A : Type 0} → (List Lexeme → Bool) → Parser A → Parser (Option A)
optionally begins p = λ i. if begins i.left then (Some <$> p) i else Ok (None, i)

-- ---- lists. The number bounds the turns, and each turn takes a token, so the count of tokens is enough.

-- x*
unfoldable pub many_from : {A : Type 0} → (List Lexeme → Bool) → Parser A → ℕ → List A → Parser (List A)
many_from begins p zero found = pure found
many_from begins p (suc n) found = λ i. if begins i.left then (p >>= (λ x. many_from begins p n (found ++ x ∷ []))) i else Ok (found, i)

unfoldable pub many_of : {A : Type 0} → (List Lexeme → Bool) → Parser A → Parser (List A)
many_of begins p = λ i. many_from begins p (length i.left) [] i

-- L(x)
unfoldable pub list_from : {A : Type 0} → (List Lexeme → Bool) → Parser A → ℕ → List A → Parser (List A)
list_from begins p zero found = pure found
list_from begins p (suc n) found = λ i. if begins i.left then (do
  x ← p
  more ← eat (Mark_ Comma)
  if more then list_from begins p n (found ++ x ∷ []) else pure (found ++ x ∷ [])) i else Ok (found, i)

unfoldable pub list_of : {A : Type 0} → (List Lexeme → Bool) → Parser A → Parser (List A)
list_of begins p = λ i. list_from begins p (length i.left) [] i

-- ---- what a function that parses ensures: the parser's outcome, unless memory fails

abbrev pub Reads : {A : Type 0} → Outcome A → Result A ParseStop → Input → Type 0
Reads outcome (Ok a) new = outcome ≡ Ok (a, new)
Reads outcome (Err e) new = e ≢ NoMemory → outcome ≡ Err e
