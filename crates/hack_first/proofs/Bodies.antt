-- A body is a list of first units exactly where it has a tree whose declarations all are.
use Rattle.std.proofs.Common.{◌≡◌, ◌⊎◌, inl, inr, ℕ, ◌+◌, ◌^◌, ◌<◌, List, [], length, Some, Result, Ok, Err, sym, ap, ◌∙◌, subst}
use Rattle.hack_types.specs.declared.place.Place.{Place}
use Rattle.hack_lexer.specs.declared.token.Token.{Token}
use Rattle.hack_lexer.specs.Tokens.{AreTokens}
use Rattle.hack_lexer.proofs.Cuts.{one_list, no_both}
use Rattle.hack_tree.specs.declared.declaration.FileTree.{FileTree}
use Rattle.hack_parse_expr.specs.declared.lexeme.Lexeme.{Lexeme}
use Rattle.hack_parse_expr.specs.declared.stop.ParseStop.{ParseStop}
use Rattle.hack_parse_expr.specs.declared.stop.ParseStop.TheVariants.{Fault}
use Rattle.hack_parse_expr.specs.Input.{Input}
use Rattle.hack_parse_expr.specs.Run.{Fails}
use Rattle.hack_parse_expr.specs.Parsers.{at_front}
use Rattle.hack_parse_expr.specs.Symbols.{Declared, File, rule}
use Rattle.hack_parse_file.specs.Lexemes.{AreLexemes}
use Rattle.hack_parse_decl.specs.Declarations.{declarations}
use Rattle.hack_parse_file.specs.Files.{IsTree, IsFileFault, IsLeftOver, end_of}
use Rattle.hack_parse_decl.proofs.DeclarationsFollow.{files_stand, files_fail}
use Rattle.hack_first.specs.Functions.{Function}
use Rattle.hack_first.specs.FirstUnits.{AreUnits, IsFirstBody}
use Rattle.hack_first.proofs.NamedTrees.{first_functions, unit_functions}
use Rattle.hack_first.proofs.FirstLaw.{declared_are_units, units_are_first}
use Rattle.hack_first.proofs.TokensRead.{units_are_declared}

-- the declarations of a tree, read by the parser
record IsRead (names : List (List ℕ)) (bytes : List ℕ) (tree : FileTree) : Type 0 where
  tokens : List Token
  lexemes : List Lexeme
  cut : AreTokens bytes tokens
  lexed : AreLexemes names bytes tokens lexemes
  declared : List Declared
  rest : Input
  read : declarations (at_front lexemes (end_of bytes)) ≡ Ok (declared, rest)
  all : rest.left ≡ []
  units : unit_functions names tree.units ≡ first_functions names declared

is_read : (names : List (List ℕ)) (bytes : List ℕ) (tree : FileTree) → IsTree names bytes tree → IsRead names bytes tree
is_read names bytes tree h = record {
  tokens = h.input.tokens;
  lexemes = h.lexemes;
  cut = h.input.cut;
  lexed = h.input.lexed;
  declared = h.declared;
  rest = h.rest;
  read = (files_stand h.lexemes (end_of bytes) h.declared h.rest).0 h.stands;
  all = h.all;
  units = ap (unit_functions names) h.units ∙ units_are_first names bytes h.declared;
}

-- what the parser reads of the lexemes of a body of first units
record IsReadBody (names : List (List ℕ)) (lexemes : List Lexeme) (end : Place) (functions : List Function) : Type 0 where
  declared : List Declared
  rest : Input
  read : declarations (at_front lexemes end) ≡ Ok (declared, rest)
  all : rest.left ≡ []
  are : first_functions names declared ≡ Some functions

read_body : (names : List (List ℕ)) (bytes : List ℕ) (tokens : List Token) (lexemes : List Lexeme) (end : Place) (functions : List Function) → length bytes + 1 < 2 ^ 32 → AreTokens bytes tokens
    → AreLexemes names bytes tokens lexemes → IsFirstBody bytes functions → IsReadBody names lexemes end functions
read_body names bytes tokens lexemes end functions short cut lexed body =
    let same : body.0 ≡ tokens = one_list bytes body.0 tokens body.1 cut in
    let r = units_are_declared names bytes tokens lexemes end functions short cut lexed (subst (λ ts. AreUnits bytes ts functions) same body.2) in
    record { declared = r.0; rest = r.1; read = r.2; all = r.3; are = r.4 }

ok_is : {A B : Type 0} (a b : A) (i j : Input) → ◌≡◌ {A = Result (A × Input) B} (Ok (a, i)) (Ok (b, j)) → (a ≡ b) × (i ≡ j)
ok_is {A = A} a b i j e =
    let pair : ◌≡◌ {A = A × Input} (a, i) (b, j) = cc in
    (ap (λ (p : A × Input). p.0) pair, ap (λ (p : A × Input). p.1) pair)

-- a body of first units has a tree of these functions
pub tree_of_body : (names : List (List ℕ)) (bytes : List ℕ) (tree : FileTree) (functions : List Function) → length bytes + 1 < 2 ^ 32 → IsTree names bytes tree → IsFirstBody bytes functions
    → unit_functions names tree.units ≡ Some functions
tree_of_body names bytes tree functions short h body =
    let r = is_read names bytes tree h in
    let b = read_body names bytes r.tokens r.lexemes (end_of bytes) functions short r.cut r.lexed body in
    let same = ok_is b.declared r.declared b.rest r.rest (sym b.read ∙ r.read) in
    r.units ∙ ap (first_functions names) (sym same.0) ∙ b.are

-- a tree of these functions is that of a body of first units
pub body_of_tree : (names : List (List ℕ)) (bytes : List ℕ) (tree : FileTree) (functions : List Function) → length bytes + 1 < 2 ^ 32 → IsTree names bytes tree
    → unit_functions names tree.units ≡ Some functions → IsFirstBody bytes functions
body_of_tree names bytes tree functions short h are =
    let r = is_read names bytes tree h in
    (r.tokens, r.cut, declared_are_units names bytes r.tokens r.lexemes (end_of bytes) functions r.declared r.rest short r.cut r.lexed r.read r.all (sym r.units ∙ are))

no_err : {A B : Type 0} (a : A) (stop : B) → ◌≡◌ {A = Result A B} (Ok a) (Err stop) → ⊥
no_err a stop e = absurd cc

-- what the parser reads whole has no fault
not_faulty : (names : List (List ℕ)) (lexemes : List Lexeme) (end : Place) (functions : List Function) (stop : ParseStop) → IsReadBody names lexemes end functions
    → Fails (rule File) (at_front lexemes end) stop ⊎ IsLeftOver (at_front lexemes end) stop → ⊥
not_faulty names lexemes end functions stop b (inl fails) = no_err (b.declared, b.rest) stop (sym b.read ∙ (files_fail lexemes end stop).0 fails)
not_faulty names lexemes end functions stop b (inr left) =
    let same = ok_is b.declared left.declared b.rest left.rest (sym b.read ∙ (files_stand lexemes end left.declared left.rest).0 left.stands) in
    left.more (ap (λ (i : Input). i.left) (sym same.1) ∙ b.all)

-- a text with a fault is no body of first units
pub no_body : (bytes : List ℕ) (place : Place) (code : ℕ) (functions : List Function) → length bytes + 1 < 2 ^ 32 → IsFileFault bytes place code → IsFirstBody bytes functions → ⊥
no_body bytes place code functions short (inl lexical) body = no_both bytes body.0 place code body.1 lexical
no_body bytes place code functions short (inr g) body =
    not_faulty g.names g.lexemes (end_of bytes) functions (Fault place code) (read_body g.names bytes g.input.tokens g.lexemes (end_of bytes) functions short g.input.cut g.input.lexed body) g.fault
