-- Which token comes next.
use Rattle.std.specs.Prelude.{◌==◌, Bool, true, false, List, [], ◌∷◌, Option, None, Some}
use Rattle.hack_lexer.specs.declared.kind.TokenKind.{TokenKind}
use Rattle.hack_lexer.specs.declared.kind.TokenKind.TheVariants as kind
use Rattle.hack_lexer.specs.declared.kind.Mark.{Mark}
use Rattle.hack_lexer.specs.declared.kind.Keyword.{Keyword}
use Rattle.hack_lexer.specs.Kinds.{sort_of_kind}
use Rattle.hack_parse_expr.specs.declared.lexeme.Lexeme.{Lexeme}

-- the kind of the next token, where there is one
abbrev pub next_kind : List Lexeme → Option TokenKind
next_kind [] = None
next_kind (t ∷ ts) = Some t.kind

-- the next token is of this kind
abbrev pub sees_kind : TokenKind → List Lexeme → Bool
sees_kind k [] = false
sees_kind k (t ∷ ts) = sort_of_kind t.kind == sort_of_kind k

abbrev pub sees_mark : Mark → List Lexeme → Bool
sees_mark m ts = sees_kind (kind.Mark m) ts

abbrev pub sees_keyword : Keyword → List Lexeme → Bool
sees_keyword k ts = sees_kind (kind.Keyword k) ts

-- the kind of the token behind the next, where there is one
abbrev pub second_kind : List Lexeme → Option TokenKind
second_kind [] = None
second_kind (t ∷ ts) = next_kind ts

-- a name or a keyword
abbrev pub is_word : TokenKind → Bool
is_word kind.Name = true
is_word (kind.Keyword k) = true
is_word _ = false
