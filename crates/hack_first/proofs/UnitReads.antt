-- What the parser makes of the tokens of a first unit.
use Rattle.std.proofs.Common.{◌≡◌, ℕ, suc, List, [], ◌∷◌, ◌++◌, Some, Ok, refl, ap}
use Rattle.hack_types.specs.declared.place.Place.{Place}
use Rattle.hack_lexer.specs.declared.kind.TokenKind.{TokenKind}
use Rattle.hack_lexer.specs.declared.kind.TokenKind.TheVariants as kind
use Rattle.hack_lexer.specs.declared.kind.Mark.TheVariants as mark
use Rattle.hack_lexer.specs.declared.kind.Keyword.TheVariants as keyword
use Rattle.hack_tree.specs.declared.written_type.Primitive.{Primitive as TreePrimitive}
use Rattle.hack_tree.specs.declared.statement.Stmt.{Stmt}
use Rattle.hack_tree.specs.declared.declaration.UnitTree.{UnitTree}
use Rattle.hack_first.specs.declared.unit.Primitive.{Primitive}
use Rattle.hack_first.specs.declared.unit.Primitive.TheVariants.{Int, Str}
use Rattle.hack_first.specs.Functions.{Value, OfType, OfCall, named}
use Rattle.hack_first.specs.FirstUnits.{type_keyword}
use Rattle.hack_first.specs.FirstTrees.{literal_of, at_place}
use Rattle.hack_first.specs.FirstTrees as trees
use Rattle.hack_first.proofs.NamedTrees.{told, value_in, value_of, first_of, function_at, function_told}
use Rattle.hack_first.proofs.Layers.{out_literal, out_call, out_return, out_primitive}
use Rattle.hack_parse_expr.specs.Run.{deepest}
use Rattle.hack_tree.specs.declared.expression.Literal.{Literal}
use Rattle.hack_tree.specs.declared.expression.Literal.TheVariants as literal
use Rattle.hack_tree.specs.declared.expression.Expr.{Expr}
use Rattle.hack_tree.specs.declared.expression.Expr.TheVariants as e
use Rattle.hack_parse_expr.specs.declared.lexeme.Lexeme.{Lexeme}
use Rattle.hack_parse_expr.specs.declared.rows.Nested.TheVariants as nested_kind
use Rattle.hack_parse_expr.specs.Input.{Input, relative}
use Rattle.hack_parse_expr.specs.Symbols.{Declared}
use Rattle.hack_parse_expr.specs.Parsers.{token, expect, place, starting, many_from, many_of, list_from, list_of}
use Rattle.hack_parse_expr.specs.Expressions.{literal_read, key_text, expressions, arguments, behind_name, name, primary, expression_if_any, suffixes, suffix, postfix, type_tests, type_test, tested, operands, unary, further, operations, at_level, product, sum, relation, equality, bit_and, bit_xor, bit_or, logical_and, logical_or, coalesce, conditional, whole, nests}
use Rattle.hack_parse_expr.specs.Types.{type_row_read, written_type}
use Rattle.hack_parse_stmt.specs.Statements.{statements, block, return_statement, value_if_any, statement_read, statement}
use Rattle.hack_parse_decl.specs.Declarations.{attribute, attribute_list, attributes, attributes_if_any, type_parameters_if_any, type_parameters, type_parameter_list, type_parameter, variance_if_any, parameter_list, parameter, parameters, result_if_any, signature, function, declared, declaration}
use Rattle.hack_tree.specs.declared.written_type.WrittenType.TheVariants as written
use Rattle.hack_tree.specs.declared.written_type.Primitive.TheVariants as primitive
use Rattle.hack_tree.specs.declared.statement.Stmt.TheVariants as stmt
use Rattle.hack_tree.specs.declared.declaration.UnitTree.TheVariants as unit

-- a token, made one of this kind
abbrev pub as_kind : TokenKind → Lexeme → Lexeme
as_kind k l = record l { kind = k }

-- the input behind this token
abbrev pub behind_token : Lexeme → List Lexeme → Input → Input
behind_token t left i = record i { left = left; behind = t.behind }

-- ---- the value

-- an int is read
int_read : (depth : ℕ) (i : Input) (t end : Lexeme) (rest : List Lexeme) →
    nests (suc depth) nested_kind.Expression (record i { left = as_kind kind.Int t ∷ as_kind (kind.Mark mark.Semicolon) end ∷ rest })
    ≡ Ok (e.Literal (relative i.start t.at) literal.Int, behind_token t (as_kind (kind.Mark mark.Semicolon) end ∷ rest) i)
unfolding nests whole conditional coalesce logical_or logical_and bit_or bit_xor bit_and equality relation sum product at_level operations further unary operands tested type_tests type_test postfix suffixes suffix primary literal_read many_of many_from place token
int_read depth i t end rest = refl

-- a string is read
text_read : (depth : ℕ) (i : Input) (t end : Lexeme) (rest : List Lexeme) →
    nests (suc depth) nested_kind.Expression (record i { left = as_kind kind.Text t ∷ as_kind (kind.Mark mark.Semicolon) end ∷ rest })
    ≡ Ok (e.Literal (relative i.start t.at) literal.Text, behind_token t (as_kind (kind.Mark mark.Semicolon) end ∷ rest) i)
unfolding nests whole conditional coalesce logical_or logical_and bit_or bit_xor bit_and equality relation sum product at_level operations further unary operands tested type_tests type_test postfix suffixes suffix primary literal_read many_of many_from place token
text_read depth i t end rest = refl

-- a key string is read
key_text_read : (depth : ℕ) (i : Input) (t end : Lexeme) (rest : List Lexeme) →
    nests (suc depth) nested_kind.Expression (record i { left = as_kind kind.KeyText t ∷ as_kind (kind.Mark mark.Semicolon) end ∷ rest })
    ≡ Ok (e.Literal (relative i.start t.at) (literal.KeyText t.name), behind_token t (as_kind (kind.Mark mark.Semicolon) end ∷ rest) i)
unfolding nests whole conditional coalesce logical_or logical_and bit_or bit_xor bit_and equality relation sum product at_level operations further unary operands tested type_tests type_test postfix suffixes suffix primary key_text many_of many_from place token
key_text_read depth i t end rest = refl

-- a call without arguments is read
call_read : (depth : ℕ) (i : Input) (t open_ close end : Lexeme) (rest : List Lexeme) →
    nests (suc depth) nested_kind.Expression (record i { left = as_kind kind.Name t ∷ as_kind (kind.Mark mark.OpenParen) open_ ∷ as_kind (kind.Mark mark.CloseParen) close ∷ as_kind (kind.Mark mark.Semicolon) end ∷ rest })
    ≡ Ok (e.Call (relative i.start t.at) t.name [], behind_token close (as_kind (kind.Mark mark.Semicolon) end ∷ rest) i)
unfolding nests whole conditional coalesce logical_or logical_and bit_or bit_xor bit_and equality relation sum product at_level operations further unary operands tested type_tests type_test postfix suffixes suffix primary name behind_name arguments expressions list_of list_from expect many_of many_from place token
call_read depth i t open_ close end rest = refl

-- a value that is read before a `;`: its first token, and the tree that depends on where the declaration starts
pub record ReadsValue (names : List (List ℕ)) (value : Value) (lexemes : List Lexeme) : Type 0 where
  pub first : Lexeme
  pub more : List Lexeme
  pub parts : lexemes ≡ first ∷ more
  pub tree : Place → Expr
  pub behind : ℕ
  pub reads : (i : Input) (end : Lexeme) (rest : List Lexeme) →
      expression_if_any 127 (nests 127) (record i { left = first ∷ more ++ as_kind (kind.Mark mark.Semicolon) end ∷ rest })
      ≡ Ok (Some (tree i.start), record i { left = as_kind (kind.Mark mark.Semicolon) end ∷ rest; behind = behind })
  pub is : (start : Place) → value_of names (tree start) ≡ Some (value, relative start first.at)

-- the value of a literal
literal_value : (names : List (List ℕ)) (at : Place) (l : Literal) → value_of names (e.Literal at l) ≡ told names (at_place at (literal_of l))
literal_value names at l = ap (value_in names) (out_literal at l)

-- an int is read as a value
pub int_value : (names : List (List ℕ)) (t : Lexeme) → ReadsValue names (OfType Int) (as_kind kind.Int t ∷ [])
unfolding expression_if_any
int_value names t = record {
  first = as_kind kind.Int t;
  more = [];
  parts = refl;
  tree = λ start. e.Literal (relative start t.at) literal.Int;
  behind = t.behind;
  reads = λ i end rest. rw (int_read 126 i t end rest) refl;
  is = λ start. literal_value names (relative start t.at) literal.Int;
}

-- a string is read as a value
pub text_value : (names : List (List ℕ)) (t : Lexeme) → ReadsValue names (OfType Str) (as_kind kind.Text t ∷ [])
unfolding expression_if_any
text_value names t = record {
  first = as_kind kind.Text t;
  more = [];
  parts = refl;
  tree = λ start. e.Literal (relative start t.at) literal.Text;
  behind = t.behind;
  reads = λ i end rest. rw (text_read 126 i t end rest) refl;
  is = λ start. literal_value names (relative start t.at) literal.Text;
}

-- a key string is read as a value
pub key_text_value : (names : List (List ℕ)) (t : Lexeme) → ReadsValue names (OfType Str) (as_kind kind.KeyText t ∷ [])
unfolding expression_if_any
key_text_value names t = record {
  first = as_kind kind.KeyText t;
  more = [];
  parts = refl;
  tree = λ start. e.Literal (relative start t.at) (literal.KeyText t.name);
  behind = t.behind;
  reads = λ i end rest. rw (key_text_read 126 i t end rest) refl;
  is = λ start. literal_value names (relative start t.at) (literal.KeyText t.name);
}

-- a call without arguments is read as a value
pub call_value : (names : List (List ℕ)) (t opens closes : Lexeme) →
    ReadsValue names (OfCall (named names t.name)) (as_kind kind.Name t ∷ as_kind (kind.Mark mark.OpenParen) opens ∷ as_kind (kind.Mark mark.CloseParen) closes ∷ [])
unfolding expression_if_any
call_value names t opens closes = record {
  first = as_kind kind.Name t;
  more = as_kind (kind.Mark mark.OpenParen) opens ∷ as_kind (kind.Mark mark.CloseParen) closes ∷ [];
  parts = refl;
  tree = λ start. e.Call (relative start t.at) t.name [];
  behind = closes.behind;
  reads = λ i end rest. rw (call_read 126 i t opens closes end rest) refl;
  is = λ start. ap (value_in names) (out_call (relative start t.at) t.name []);
}

-- ---- a declaration

-- a return is read
pub statement_of : (i j : Input) (t end : Lexeme) (read rest : List Lexeme) (value : Expr) →
    (expression_if_any 127 (nests 127) (record i { left = read; behind = t.behind }) ≡ Ok (Some value, record j { left = as_kind (kind.Mark mark.Semicolon) end ∷ rest })) →
    statement deepest (record i { left = as_kind (kind.Keyword keyword.Return) t ∷ read }) ≡ Ok (stmt.Return (relative i.start t.at) (Some value), record j { left = rest; behind = end.behind })
unfolding statement statement_read return_statement value_if_any expect token
statement_of i j t end read rest value h = rw h refl

-- a body of one return is read
pub block_of : (i j : Input) (opens t v close : Lexeme) (read rest : List Lexeme) (s : Stmt) →
    (statement deepest (record i { left = as_kind (kind.Keyword keyword.Return) t ∷ v ∷ read; behind = opens.behind }) ≡ Ok (s, record j { left = as_kind (kind.Mark mark.CloseBrace) close ∷ rest })) →
    block deepest (statement deepest) (record i { left = as_kind (kind.Mark mark.OpenBrace) opens ∷ as_kind (kind.Keyword keyword.Return) t ∷ v ∷ read }) ≡ Ok (s ∷ [], record j { left = rest; behind = close.behind })
unfolding block statements expect token many_of many_from
block_of i j opens t v close read rest s h = rw h refl

-- the primitive type of a tree
pub tree_primitive : Primitive → TreePrimitive
tree_primitive Int = primitive.Int
tree_primitive Str = primitive.String

-- the tree of a first unit with this body
pub tree_of : Primitive → Place → Lexeme → Lexeme → List Stmt → UnitTree
tree_of p start name type body = unit.Function [] (record { name = record { at = relative start name.at; name = name.name }; type_parameters = []; parameters = []; result = Some (written.Primitive (relative start type.at) (tree_primitive p)) }) body

-- the declaration of a first unit with this body
abbrev pub declared_of : Primitive → Lexeme → Lexeme → Lexeme → List Stmt → ℕ → Declared
declared_of p first name type body behind = record { first = as_kind (kind.Keyword keyword.Function) first; tree = tree_of p first.at name type body; behind = behind }

-- a declaration of a first unit is read
pub declaration_of : (p : Primitive) (i j : Input) (t0 t1 t2 t3 t4 t5 : Lexeme) (read : List Lexeme) (body : List Stmt) →
    (block deepest (statement deepest) (record { left = read; start = t0.at; behind = t5.behind; end = i.end }) ≡ Ok (body, j)) →
    declaration (record i { left = as_kind (kind.Keyword keyword.Function) t0 ∷ as_kind kind.Name t1 ∷ as_kind (kind.Mark mark.OpenParen) t2 ∷ as_kind (kind.Mark mark.CloseParen) t3 ∷ as_kind (kind.Mark mark.Colon) t4 ∷ as_kind (kind.Keyword (type_keyword p)) t5 ∷ read })
    ≡ Ok (declared_of p t0 t1 t5 body j.behind, j)
unfolding tree_of tree_primitive declaration starting attributes_if_any attributes attribute_list attribute declared function signature type_parameters_if_any type_parameters type_parameter_list type_parameter variance_if_any parameters parameter_list parameter result_if_any list_of list_from written_type type_row_read expect token
declaration_of Int i j t0 t1 t2 t3 t4 t5 read body h = rw h refl
declaration_of Str i j t0 t1 t2 t3 t4 t5 read body h = rw h refl

-- ---- the function that it is

-- such a tree is a first unit
pub first_is : (names : List (List ℕ)) (p : Primitive) (start : Place) (name type : Lexeme) (at : Place) (value : Expr) (v : Value × Place) → value_of names value ≡ Some v →
    first_of names start (tree_of p start name type (stmt.Return at (Some value) ∷ [])) ≡ Some (function_at names start (record { at = relative start name.at; name = name.name }) p v)
unfolding tree_of tree_primitive
first_is names Int start name type at value v h =
    rw (out_primitive (relative start type.at) primitive.Int, out_return at (Some value)) (function_told names start _ Int (trees.value_of value) v h)
first_is names Str start name type at value v h =
    rw (out_primitive (relative start type.at) primitive.String, out_return at (Some value)) (function_told names start _ Str (trees.value_of value) v h)
