-- The kinds of the tokens of the builtin text.
use Rattle.std.proofs.Common.{ℕ, suc, List, [], ◌∷◌}
use Rattle.hack_lexer.specs.declared.kind.TokenKind.{TokenKind}
use Rattle.hack_lexer.specs.declared.kind.TokenKind.TheVariants.{Name, Variable, This, Text, Mark, Keyword}
use Rattle.hack_lexer.specs.declared.kind.Mark.TheVariants.{OpenBrace, CloseBrace, OpenParen, CloseParen, Semicolon, Comma, Less, Greater, Plus, Assign, Arrow, Colon}
use Rattle.hack_lexer.specs.declared.kind.Keyword.TheVariants.{Interface, Extends, As, Arraykey, Public, Function, String, Class, Implements, Private, Return}
use Rattle.hack_parse_expr.specs.declared.lexeme.Lexeme.{Lexeme}

-- the kinds of the tokens, line by line
abbrev pub builtin_kinds : List TokenKind
builtin_kinds =
    -- interface Traversable<+Tv> {}
    Keyword Interface ∷ Name ∷ Mark Less ∷ Mark Plus ∷ Name ∷ Mark Greater ∷ Mark OpenBrace ∷ Mark CloseBrace
    -- interface KeyedTraversable<+Tk, +Tv> extends Traversable<Tv> {}
    ∷ Keyword Interface ∷ Name ∷ Mark Less ∷ Mark Plus ∷ Name ∷ Mark Comma ∷ Mark Plus ∷ Name ∷ Mark Greater
    ∷ Keyword Extends ∷ Name ∷ Mark Less ∷ Name ∷ Mark Greater ∷ Mark OpenBrace ∷ Mark CloseBrace
    -- interface Container<+Tv> extends Traversable<Tv> {}
    ∷ Keyword Interface ∷ Name ∷ Mark Less ∷ Mark Plus ∷ Name ∷ Mark Greater
    ∷ Keyword Extends ∷ Name ∷ Mark Less ∷ Name ∷ Mark Greater ∷ Mark OpenBrace ∷ Mark CloseBrace
    -- interface KeyedContainer<+Tk as arraykey, +Tv>
    ∷ Keyword Interface ∷ Name ∷ Mark Less ∷ Mark Plus ∷ Name ∷ Keyword As ∷ Keyword Arraykey ∷ Mark Comma ∷ Mark Plus ∷ Name ∷ Mark Greater
    --   extends Container<Tv>, KeyedTraversable<Tk, Tv> {}
    ∷ Keyword Extends ∷ Name ∷ Mark Less ∷ Name ∷ Mark Greater ∷ Mark Comma
    ∷ Name ∷ Mark Less ∷ Name ∷ Mark Comma ∷ Name ∷ Mark Greater ∷ Mark OpenBrace ∷ Mark CloseBrace
    -- interface Throwable { public function getMessage(): string; }
    ∷ Keyword Interface ∷ Name ∷ Mark OpenBrace ∷ Keyword Public ∷ Keyword Function ∷ Name ∷ Mark OpenParen ∷ Mark CloseParen
    ∷ Mark Colon ∷ Keyword String ∷ Mark Semicolon ∷ Mark CloseBrace
    -- class Exception implements Throwable {
    ∷ Keyword Class ∷ Name ∷ Keyword Implements ∷ Name ∷ Mark OpenBrace
    --   public function __construct(private string $message = '') {}
    ∷ Keyword Public ∷ Keyword Function ∷ Name ∷ Mark OpenParen ∷ Keyword Private ∷ Keyword String ∷ Variable ∷ Mark Assign ∷ Text
    ∷ Mark CloseParen ∷ Mark OpenBrace ∷ Mark CloseBrace
    --   public function getMessage(): string { return $this->message; }
    ∷ Keyword Public ∷ Keyword Function ∷ Name ∷ Mark OpenParen ∷ Mark CloseParen ∷ Mark Colon ∷ Keyword String
    ∷ Mark OpenBrace ∷ Keyword Return ∷ This ∷ Mark Arrow ∷ Name ∷ Mark Semicolon ∷ Mark CloseBrace
    -- }
    ∷ Mark CloseBrace ∷ []

-- tokens of these kinds, the rest of each as it is here
abbrev pub of_kinds : List TokenKind → (ℕ → Lexeme) → List Lexeme
of_kinds [] rest = []
of_kinds (k ∷ ks) rest = record (rest 0) { kind = k } ∷ of_kinds ks (λ n. rest (suc n))
