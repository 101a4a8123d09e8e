-- Which tokens decide the rows of a first unit, and the forms of such tokens.
use Rattle.std.proofs.Common.{◌≡◌, ℕ, ◌<◌, ◌||◌, Bool, true, false, cond, eqb, List, [], Option, Some, None, refl, sym, ap, ◌∙◌, arith}
use Rattle.std.proofs.lemmas.Bool.{eqb-true, ne_eqb, true≢false}
use Rattle.hack_lexer.specs.declared.kind.TokenKind.{TokenKind}
use Rattle.hack_lexer.specs.declared.kind.TokenKind.TheVariants as kind
use Rattle.hack_lexer.specs.declared.kind.Mark.{Mark}
use Rattle.hack_lexer.specs.declared.kind.Mark.TheVariants as mark
use Rattle.hack_lexer.specs.declared.kind.Keyword.{Keyword}
use Rattle.hack_lexer.specs.declared.kind.Keyword.TheVariants as keyword
use Rattle.hack_lexer.specs.Kinds.{sort_of_kind}
use Rattle.hack_tree.specs.declared.written_type.Primitive.{Primitive as TreePrimitive}
use Rattle.hack_tree.specs.declared.written_type.Primitive.TheVariants as primitive
use Rattle.hack_parse_expr.specs.declared.lexeme.Lexeme.{Lexeme}
use Rattle.hack_parse_expr.specs.declared.rows.TypeRow.{TypeRow}
use Rattle.hack_parse_expr.specs.declared.rows.TypeRow.TheVariants as type
use Rattle.hack_parse_expr.specs.declared.rows.PrimaryRow.{PrimaryRow}
use Rattle.hack_parse_expr.specs.declared.rows.PrimaryRow.TheVariants as primary
use Rattle.hack_parse_expr.specs.declared.rows.StatementRow.{StatementRow}
use Rattle.hack_parse_expr.specs.declared.rows.StatementRow.TheVariants as statement
use Rattle.hack_parse_expr.specs.declared.rows.DeclarationRow.TheVariants as declaration
use Rattle.hack_parse_expr.specs.Decides.{is_there, type_row_of_keyword, type_row_of_mark, type_row, unary_row, primary_row_of_mark, primary_row_of_keyword, primary_row, statement_row_of_keyword, statement_row, declaration_row}
use Rattle.hack_parse_expr.specs.Symbols.{Mark_}
use Rattle.hack_parse_expr.specs.Rows.{fits}
use Rattle.hack_first.specs.declared.unit.Primitive.{Primitive}
use Rattle.hack_first.specs.declared.unit.Primitive.TheVariants.{Int, Str}
use Rattle.hack_first.specs.FirstUnits.{Lexeme as Form, counted_text, mark as mark_form, type_keyword}
use Rattle.hack_first.specs.Functions.{named}
use Rattle.hack_first.specs.FirstTrees.{primitive_of}

-- ---- rows

-- the row of a value that is one token, or of a name
abbrev is_plain : Option PrimaryRow → Bool
is_plain (Some primary.Int) = true
is_plain (Some primary.Text) = true
is_plain (Some primary.KeyText) = true
is_plain (Some primary.Name) = true
is_plain _ = false

-- no mark begins such a row
mark_not_plain : (m : Mark) → is_plain (primary_row_of_mark m) ≡ false
mark_not_plain mark.OpenParen = refl
mark_not_plain _ = refl

-- no keyword begins such a row
keyword_not_plain : (k : Keyword) → is_plain (primary_row_of_keyword k) ≡ false
keyword_not_plain keyword.True = refl
keyword_not_plain _ = refl

-- a mark does not decide such a row
no_plain_mark : (m : Mark) (row : PrimaryRow) → is_plain (Some row) ≡ true → primary_row_of_mark m ≡ Some row → ⊥
no_plain_mark m row plain e = true≢false (sym plain ∙ ap is_plain (sym e) ∙ mark_not_plain m)

-- a keyword does not decide such a row
no_plain_keyword : (k : Keyword) (row : PrimaryRow) → is_plain (Some row) ≡ true → primary_row_of_keyword k ≡ Some row → ⊥
no_plain_keyword k row plain e = true≢false (sym plain ∙ ap is_plain (sym e) ∙ keyword_not_plain k)

-- an int decides the row of an int
pub int_row : (k : Option TokenKind) → primary_row k ≡ Some primary.Int → k ≡ Some kind.Int
int_row (Some kind.Int) e = refl
int_row (Some (kind.Mark m)) e = absurd (no_plain_mark m primary.Int refl e)
int_row (Some (kind.Keyword k)) e = absurd (no_plain_keyword k primary.Int refl e)
int_row _ e = absurd cc

-- a string decides the row of a string
pub text_row : (k : Option TokenKind) → primary_row k ≡ Some primary.Text → k ≡ Some kind.Text
text_row (Some kind.Text) e = refl
text_row (Some (kind.Mark m)) e = absurd (no_plain_mark m primary.Text refl e)
text_row (Some (kind.Keyword k)) e = absurd (no_plain_keyword k primary.Text refl e)
text_row _ e = absurd cc

-- a key string decides the row of a key string
pub key_text_row : (k : Option TokenKind) → primary_row k ≡ Some primary.KeyText → k ≡ Some kind.KeyText
key_text_row (Some kind.KeyText) e = refl
key_text_row (Some (kind.Mark m)) e = absurd (no_plain_mark m primary.KeyText refl e)
key_text_row (Some (kind.Keyword k)) e = absurd (no_plain_keyword k primary.KeyText refl e)
key_text_row _ e = absurd cc

-- a name decides the row of a name
pub name_row : (k : Option TokenKind) → primary_row k ≡ Some primary.Name → k ≡ Some kind.Name
name_row (Some kind.Name) e = refl
name_row (Some (kind.Mark m)) e = absurd (no_plain_mark m primary.Name refl e)
name_row (Some (kind.Keyword k)) e = absurd (no_plain_keyword k primary.Name refl e)
name_row _ e = absurd cc

-- the row of a primitive type
abbrev is_primitive : Option TypeRow → Bool
is_primitive (Some (type.Primitive p)) = true
is_primitive _ = false

-- no mark begins a primitive type
no_primitive_mark : (m : Mark) → is_primitive (type_row_of_mark m) ≡ false
no_primitive_mark mark.Question = refl
no_primitive_mark _ = refl

-- the keyword of the row of `int`
int_keyword : (k : Keyword) → type_row_of_keyword k ≡ Some (type.Primitive primitive.Int) → ◌≡◌ {A = Option TokenKind} (Some (kind.Keyword k)) (Some (kind.Keyword keyword.Int))
int_keyword keyword.Int e = refl
int_keyword _ e = absurd cc

-- the keyword of the row of `string`
string_keyword : (k : Keyword) → type_row_of_keyword k ≡ Some (type.Primitive primitive.String) → ◌≡◌ {A = Option TokenKind} (Some (kind.Keyword k)) (Some (kind.Keyword keyword.String))
string_keyword keyword.String e = refl
string_keyword _ e = absurd cc

-- `int` decides its row
int_type_row : (k : Option TokenKind) → type_row k ≡ Some (type.Primitive primitive.Int) → k ≡ Some (kind.Keyword keyword.Int)
int_type_row (Some (kind.Keyword k)) e = int_keyword k e
int_type_row (Some (kind.Mark m)) e = absurd (true≢false (ap is_primitive (sym e) ∙ no_primitive_mark m))
int_type_row _ e = absurd cc

-- `string` decides its row
string_type_row : (k : Option TokenKind) → type_row k ≡ Some (type.Primitive primitive.String) → k ≡ Some (kind.Keyword keyword.String)
string_type_row (Some (kind.Keyword k)) e = string_keyword k e
string_type_row (Some (kind.Mark m)) e = absurd (true≢false (ap is_primitive (sym e) ∙ no_primitive_mark m))
string_type_row _ e = absurd cc

-- the primitive type of a first unit, by its keyword
pub primitive_row : (k : Option TokenKind) (q : TreePrimitive) (p : Primitive) → type_row k ≡ Some (type.Primitive q) → primitive_of q ≡ Some p → k ≡ Some (kind.Keyword (type_keyword p))
primitive_row k primitive.Int Int e h = int_type_row k e
primitive_row k primitive.String Str e h = string_type_row k e
primitive_row k _ _ e h = absurd cc

-- the keyword of the row of a return
return_keyword : (k : Keyword) → statement_row_of_keyword k ≡ Some statement.Return → ◌≡◌ {A = Option TokenKind} (Some (kind.Keyword k)) (Some (kind.Keyword keyword.Return))
return_keyword keyword.Return e = refl
return_keyword _ e = absurd cc

-- the row of an expression is no return
no_return : (b : Bool) → ◌≡◌ {A = Option StatementRow} (cond b (Some statement.Expression) None) (Some statement.Return) → ⊥
no_return true e = cc
no_return false e = cc

-- `return` decides the row of a return
pub return_row : (first second : Option TokenKind) → statement_row first second ≡ Some statement.Return → first ≡ Some (kind.Keyword keyword.Return)
return_row (Some (kind.Keyword k)) second e = return_keyword k e
return_row (Some (kind.Mark mark.OpenBrace)) second e = absurd cc
return_row (Some (kind.Mark mark.Semicolon)) second e = absurd cc
return_row first second e = absurd (no_return (is_there (unary_row first second) || is_there (primary_row first)) e)

-- `function` decides the row of a function
pub function_row : (k : Option TokenKind) → declaration_row k ≡ Some declaration.Function → k ≡ Some (kind.Keyword keyword.Function)
function_row (Some (kind.Keyword keyword.Function)) e = refl
function_row _ e = absurd cc

-- ---- forms

-- a lexeme without its place: the number of its kind, and the text of its name where that counts
abbrev pub form : List (List ℕ) → Lexeme → Form
form names l = (sort_of_kind l.kind, counted_text (sort_of_kind l.kind) (named names l.name))

-- no text counts but that of a name
no_text : (sort : ℕ) (text : List ℕ) → 0 < sort → counted_text sort text ≡ []
no_text sort text h =
    let no : eqb sort 0 ≡ false = ne_eqb sort 0 (λ e. omega arith) in
    rw no refl

-- the form of a lexeme that is no name
pub sort_form : (names : List (List ℕ)) (l : Lexeme) (sort : ℕ) → sort_of_kind l.kind ≡ sort → 0 < sort → form names l ≡ (sort, [])
sort_form names l sort e h =
    ap (λ s. (s, counted_text s (named names l.name))) e ∙ ap (λ (t : List ℕ). (sort, t)) (no_text sort (named names l.name) h)

-- the form of a mark
pub form_of_mark : (names : List (List ℕ)) (m : Mark) (l : Lexeme) → fits (Mark_ m) l ≡ true → form names l ≡ mark_form m
form_of_mark names m l e = sort_form names l (sort_of_kind (kind.Mark m)) (eqb-true _ _ e) (omega arith)

-- the form of a lexeme of a kind that is no name
pub form_of_kind : (names : List (List ℕ)) (k : TokenKind) (l : Lexeme) → ◌≡◌ {A = Option TokenKind} (Some l.kind) (Some k) → 0 < sort_of_kind k → form names l ≡ (sort_of_kind k, [])
form_of_kind names k l e h = let same : l.kind ≡ k = cc in sort_form names l (sort_of_kind k) (ap sort_of_kind same) h

-- the form of a name
pub form_of_name : (names : List (List ℕ)) (l : Lexeme) → sort_of_kind l.kind ≡ 0 → form names l ≡ (0, named names l.name)
form_of_name names l e = ap (λ s. (s, counted_text s (named names l.name))) e
