-- The parsers of expressions.
use Rattle.std.specs.Prelude.{if◌then◌else◌, ℕ, zero, suc, Bool, true, false, List, [], ◌∷◌, ◌++◌, length, Option, None, Some, Ok}
use Rattle.hack_types.specs.declared.place.Place.{Place}
use Rattle.hack_lexer.specs.declared.kind.Mark.TheVariants as mark
use Rattle.hack_lexer.specs.declared.kind.TokenKind.{TokenKind}
use Rattle.hack_lexer.specs.declared.kind.TokenKind.TheVariants as kind
use Rattle.hack_tree.specs.declared.written_type.WrittenType.{WrittenType}
use Rattle.hack_tree.specs.declared.written_type.Container.{Container}
use Rattle.hack_tree.specs.declared.expression.AssignOperator.{AssignOperator}
use Rattle.hack_tree.specs.declared.expression.BinaryOperator.{BinaryOperator}
use Rattle.hack_tree.specs.declared.expression.TestOperator.{TestOperator}
use Rattle.hack_tree.specs.declared.expression.ClassReference.{ClassReference}
use Rattle.hack_tree.specs.declared.expression.ClassReference.TheVariants as reference
use Rattle.hack_tree.specs.declared.expression.Literal.{Literal}
use Rattle.hack_tree.specs.declared.expression.Literal.TheVariants as literal
use Rattle.hack_tree.specs.declared.expression.Expr.{Expr}
use Rattle.hack_tree.specs.declared.expression.Expr.TheVariants as e
use Rattle.hack_tree.specs.declared.expression.Operand.{Operand, roll-Operand}
use Rattle.hack_tree.specs.declared.expression.TypeTest.{TypeTest}
use Rattle.hack_tree.specs.declared.expression.Suffix.{Suffix}
use Rattle.hack_tree.specs.declared.expression.Suffix.TheVariants as s
use Rattle.hack_tree.specs.declared.expression.ScopedMember.{ScopedMember}
use Rattle.hack_tree.specs.declared.expression.ScopedMember.TheVariants as scoped
use Rattle.hack_tree.specs.declared.expression.Entry.{Entry, roll-Entry}
use Rattle.hack_tree.specs.declared.expression.FieldValue.{FieldValue, roll-FieldValue}
use Rattle.hack_parse_expr.specs.declared.lexeme.Lexeme.{Lexeme}
use Rattle.hack_parse_expr.specs.declared.rows.Level.{Level}
use Rattle.hack_parse_expr.specs.declared.rows.Level.TheVariants as level_kind
use Rattle.hack_parse_expr.specs.declared.rows.UnaryRow.{UnaryRow}
use Rattle.hack_parse_expr.specs.declared.rows.UnaryRow.TheVariants as unary_kind
use Rattle.hack_parse_expr.specs.declared.rows.PrimaryRow.{PrimaryRow}
use Rattle.hack_parse_expr.specs.declared.rows.PrimaryRow.TheVariants as primary_kind
use Rattle.hack_parse_expr.specs.declared.rows.ClassWord.{ClassWord}
use Rattle.hack_parse_expr.specs.declared.rows.SuffixRow.{SuffixRow}
use Rattle.hack_parse_expr.specs.declared.rows.SuffixRow.TheVariants as suffix_kind
use Rattle.hack_parse_expr.specs.declared.rows.Nested.{Nested}
use Rattle.hack_parse_expr.specs.declared.rows.Nested.TheVariants as nested_kind
use Rattle.hack_parse_expr.specs.Kinds.{next_kind, second_kind}
use Rattle.hack_parse_expr.specs.Decides.{is_there, assign_operator, operator, unary_row, test_operator, suffix_row, primary_row, class_word}
use Rattle.hack_parse_expr.specs.Symbols.{Mark_, Variable, Word, KeyText}
use Rattle.hack_parse_expr.specs.Rows.{sees, begins_expression, chain, tested as tested_tree, postfix as postfix_tree, reference_of}
use Rattle.hack_parse_expr.specs.Parsers.{Parser, ◌>>=◌, ◌>>◌, ◌<$>◌, pure, refuse, refuse_depth, token, expect, eat, after, place, optionally, many_of, list_of, list_from}
use Rattle.hack_parse_expr.specs.Types.{written_type, arguments_if_any as type_arguments_if_any}

abbrev pub begins_operator : Level → List Lexeme → Bool
begins_operator l ts = is_there (operator l (next_kind ts))

abbrev pub begins_test : List Lexeme → Bool
begins_test ts = is_there (test_operator (next_kind ts))

abbrev pub begins_suffix : List Lexeme → Bool
begins_suffix ts = is_there (suffix_row (next_kind ts))

-- an operator or a cast before its operand comes next
abbrev pub begins_operated : List Lexeme → Bool
begins_operated ts = is_there (unary_row (next_kind ts) (second_kind ts))

unfoldable pub literal_read : Literal → Parser Expr
literal_read which = (λ t. e.Literal t.at which) <$> token

unfoldable pub key_text : Parser Expr
key_text = (λ t. e.Literal t.at (literal.KeyText t.name)) <$> token

unfoldable pub variable : Parser Expr
variable = (λ t. e.Variable t.at t.name) <$> token

unfoldable pub this : Parser Expr
this = (λ t. e.This t.at) <$> token

-- So many rows that count as nesting may still be opened; the parser reads what opens one.
module _ (depth : ℕ) (nested : Nested → Parser Expr) where
  abbrev expression : Parser Expr
  expression = nested nested_kind.Expression

  -- ---- lists in brackets

  unfoldable pub expressions : Parser (List Expr)
  expressions = list_of begins_expression expression

  -- at least one
  unfoldable pub expressions1 : Parser (List Expr)
  expressions1 = do
    first ← expression
    more ← eat (Mark_ mark.Comma)
    if more then (λ i. list_from begins_expression expression (length i.left) (first ∷ []) i) else pure (first ∷ [])

  unfoldable pub entry : Parser Entry
  entry = do
    key ← expression
    expect (Mark_ mark.FatArrow)
    value ← expression
    pure (roll-Entry (record { key = key; value = value }))

  unfoldable pub entries : Parser (List Entry)
  entries = list_of begins_expression entry

  unfoldable pub field_value : Parser FieldValue
  field_value = do
    key ← expect KeyText
    expect (Mark_ mark.FatArrow)
    value ← expression
    pure (roll-FieldValue (record { key_at = key.at; key = key.name; value = value }))

  unfoldable pub field_values : Parser (List FieldValue)
  field_values = list_of (sees KeyText) field_value

  unfoldable pub arguments : Parser (List Expr)
  arguments = do
    expect (Mark_ mark.OpenParen)
    found ← expressions
    expect (Mark_ mark.CloseParen)
    pure found

  unfoldable pub arguments_if_any : Parser (Option (List Expr))
  arguments_if_any = optionally (sees (Mark_ mark.OpenParen)) arguments

  -- ---- what stands alone

  unfoldable pub scoped_member : Parser ScopedMember
  scoped_member = λ i.
      if sees Variable i.left then ((λ t. scoped.Property t.name) <$> token) i
      else (do
        word ← expect Word
        found ← arguments_if_any
        pure (scoped.Word word.name found)) i

  -- behind a name
  unfoldable pub behind_name : Lexeme → Parser Expr
  behind_name name = λ i.
      if sees (Mark_ mark.OpenParen) i.left then (e.Call name.at name.name <$> arguments) i
      else (if sees (Mark_ mark.ColonColon) i.left then (token >> (e.Scoped name.at (reference.Named name.name) <$> scoped_member)) i
      else Ok (e.Constant name.at name.name, i))

  unfoldable pub name : Parser Expr
  name = token >>= behind_name

  unfoldable pub scoped_word : ClassWord → Parser Expr
  scoped_word word = do
    t ← token
    expect (Mark_ mark.ColonColon)
    member ← scoped_member
    pure (e.Scoped t.at (reference_of word) member)

  abbrev pub new_word : Option ClassWord → Parser (Place × ClassReference × List WrittenType)
  new_word None = refuse
  new_word (Some word) = (λ t. (t.at, reference_of word, [])) <$> token

  -- behind `new`
  abbrev pub new_class_by : Option TokenKind → Parser (Place × ClassReference × List WrittenType)
  new_class_by (Some kind.Name) = do
    t ← token
    types ← type_arguments_if_any (written_type depth)
    pure (t.at, reference.Named t.name, types)
  new_class_by (Some (kind.Keyword k)) = new_word (class_word k)
  new_class_by (Some _) = refuse
  new_class_by None = refuse

  unfoldable pub new_class : Parser (Place × ClassReference × List WrittenType)
  new_class = λ i. new_class_by (next_kind i.left) i

  unfoldable pub new : Parser Expr
  new = do
    t ← token
    class ← new_class
    found ← arguments
    pure (e.New t.at class.0 class.1 class.2 found)

  unfoldable pub container : Container → Parser Expr
  container c = do
    t ← token
    expect (Mark_ mark.OpenBracket)
    elements ← expressions
    expect (Mark_ mark.CloseBracket)
    pure (e.Container t.at c elements)

  unfoldable pub dict : Parser Expr
  dict = do
    t ← token
    expect (Mark_ mark.OpenBracket)
    found ← entries
    expect (Mark_ mark.CloseBracket)
    pure (e.Dict t.at found)

  unfoldable pub shape : Parser Expr
  shape = do
    t ← token
    expect (Mark_ mark.OpenParen)
    found ← field_values
    expect (Mark_ mark.CloseParen)
    pure (e.Shape t.at found)

  unfoldable pub bracketed : Parser Expr
  bracketed = do
    t ← token
    inner ← expression
    expect (Mark_ mark.CloseParen)
    pure (e.Bracketed t.at inner)

  abbrev pub primary_by : Option PrimaryRow → Parser Expr
  primary_by None = refuse
  primary_by (Some primary_kind.Bracket) = bracketed
  primary_by (Some primary_kind.Int) = literal_read literal.Int
  primary_by (Some primary_kind.Float) = literal_read literal.Float
  primary_by (Some primary_kind.Text) = literal_read literal.Text
  primary_by (Some primary_kind.KeyText) = key_text
  primary_by (Some primary_kind.True) = literal_read literal.True
  primary_by (Some primary_kind.False) = literal_read literal.False
  primary_by (Some primary_kind.Null) = literal_read literal.Null
  primary_by (Some primary_kind.Variable) = variable
  primary_by (Some primary_kind.This) = this
  primary_by (Some primary_kind.Name) = name
  primary_by (Some (primary_kind.ClassWord word)) = scoped_word word
  primary_by (Some primary_kind.New) = new
  primary_by (Some (primary_kind.Container c)) = container c
  primary_by (Some primary_kind.Dict) = dict
  primary_by (Some primary_kind.Shape) = shape

  unfoldable pub primary : Parser Expr
  primary = λ i. primary_by (primary_row (next_kind i.left)) i

  -- ---- what stands behind an operand

  unfoldable pub expression_if_any : Parser (Option Expr)
  expression_if_any = optionally begins_expression expression

  unfoldable pub index : Parser Suffix
  index = do
    token
    found ← expression_if_any
    expect (Mark_ mark.CloseBracket)
    pure (s.Index found)

  unfoldable pub member : Bool → Parser Suffix
  member is_null_safe = do
    token
    word ← expect Word
    found ← arguments_if_any
    pure (s.Member is_null_safe word.name found)

  abbrev pub suffix_by : Option SuffixRow → Parser Suffix
  suffix_by None = refuse
  suffix_by (Some suffix_kind.Index) = index
  suffix_by (Some suffix_kind.Member) = member false
  suffix_by (Some suffix_kind.NullMember) = member true
  suffix_by (Some suffix_kind.Increment) = token >> pure s.Increment
  suffix_by (Some suffix_kind.Decrement) = token >> pure s.Decrement

  unfoldable pub suffix : Parser Suffix
  suffix = λ i. suffix_by (suffix_row (next_kind i.left)) i

  unfoldable pub suffixes : Parser (List Suffix)
  suffixes = many_of begins_suffix suffix

  unfoldable pub postfix : Parser Expr
  postfix = do
    at ← place
    operand ← primary
    found ← suffixes
    pure (postfix_tree at operand found)

  abbrev pub test_by : Option TestOperator → Parser TypeTest
  test_by None = refuse
  test_by (Some o) = do
    token
    t ← written_type depth
    pure (record { operator = o; tested = t })

  unfoldable pub type_test : Parser TypeTest
  type_test = λ i. test_by (test_operator (next_kind i.left)) i

  unfoldable pub type_tests : Parser (List TypeTest)
  type_tests = many_of begins_test type_test

  unfoldable pub tested : Parser Expr
  tested = do
    at ← place
    operand ← postfix
    found ← type_tests
    pure (tested_tree at operand found)

  -- ---- operators

  -- what stands behind a `**`: a unary that begins with an operator or a cast ends the operands; the number bounds the
  -- turns, as for lists
  unfoldable pub powers_from : ℕ → List Expr → Parser (List Expr)
  powers_from zero found = pure found
  powers_from (suc n) found = λ i.
      if sees (Mark_ mark.Power) i.left then (
      if begins_operated (after (Mark_ mark.Power) i).left
      then ((λ x. found ++ x ∷ []) <$> nested nested_kind.Operated) (after (Mark_ mark.Power) i)
      else (tested >>= (λ x. powers_from n (found ++ x ∷ []))) (after (Mark_ mark.Power) i))
      else Ok (found, i)

  -- the first operand and those behind it
  unfoldable pub powers : Expr → Parser (List Expr)
  powers first = λ i. powers_from (length i.left) (first ∷ []) i

  unfoldable pub operands : Parser Expr
  operands = do
    at ← place
    first ← tested
    (λ i. if sees (Mark_ mark.Power) i.left then (e.Power at <$> powers first) i else Ok (first, i))

  unfoldable pub unary : Parser Expr
  unary = λ i. if begins_operated i.left then nested nested_kind.Operated i else operands i

  abbrev pub operated_by : Option UnaryRow → Parser Expr
  operated_by None = refuse
  operated_by (Some (unary_kind.Prefix o)) = do
    t ← token
    operand ← unary
    pure (e.Prefix t.at o operand)
  operated_by (Some (unary_kind.Cast to)) = do
    t ← token
    token
    expect (Mark_ mark.CloseParen)
    operand ← unary
    pure (e.Cast t.at to operand)

  unfoldable pub operated : Parser Expr
  operated = λ i. operated_by (unary_row (next_kind i.left) (second_kind i.left)) i

  abbrev pub further_by : Parser Expr → Option BinaryOperator → Parser Operand
  further_by operand None = refuse
  further_by operand (Some o) = do
    token
    x ← operand
    pure (roll-Operand (record { operator = o; operand = x }))

  unfoldable pub further : Level → Parser Expr → Parser Operand
  further l operand = λ i. further_by operand (operator l (next_kind i.left)) i

  unfoldable pub operations : Level → Parser Expr → Parser (List Operand)
  operations l operand = many_of (begins_operator l) (further l operand)

  unfoldable pub at_level : Level → Parser Expr → Parser Expr
  at_level l operand = do
    at ← place
    first ← operand
    others ← operations l operand
    pure (chain at first others)

  unfoldable pub product : Parser Expr
  product = at_level level_kind.Product unary

  unfoldable pub sum : Parser Expr
  sum = at_level level_kind.Sum product

  unfoldable pub relation : Parser Expr
  relation = at_level level_kind.Relation sum

  unfoldable pub equality : Parser Expr
  equality = at_level level_kind.Equality relation

  unfoldable pub bit_and : Parser Expr
  bit_and = at_level level_kind.BitAnd equality

  unfoldable pub bit_xor : Parser Expr
  bit_xor = at_level level_kind.BitXor bit_and

  unfoldable pub bit_or : Parser Expr
  bit_or = at_level level_kind.BitOr bit_xor

  unfoldable pub logical_and : Parser Expr
  logical_and = at_level level_kind.And bit_or

  unfoldable pub logical_or : Parser Expr
  logical_or = at_level level_kind.Or logical_and

  unfoldable pub coalesce : Parser Expr
  coalesce = at_level level_kind.Coalesce logical_or

  abbrev pub level : Level → Parser Expr
  level level_kind.Coalesce = coalesce
  level level_kind.Or = logical_or
  level level_kind.And = logical_and
  level level_kind.BitOr = bit_or
  level level_kind.BitXor = bit_xor
  level level_kind.BitAnd = bit_and
  level level_kind.Equality = equality
  level level_kind.Relation = relation
  level level_kind.Sum = sum
  level level_kind.Product = product

  -- what stands between the operators of a level
  abbrev pub operand : Level → Parser Expr
  operand level_kind.Coalesce = logical_or
  operand level_kind.Or = logical_and
  operand level_kind.And = bit_or
  operand level_kind.BitOr = bit_xor
  operand level_kind.BitXor = bit_and
  operand level_kind.BitAnd = equality
  operand level_kind.Equality = relation
  operand level_kind.Relation = sum
  operand level_kind.Sum = product
  operand level_kind.Product = unary

  -- behind the `?` of a conditional expression
  unfoldable pub branches : Place → Expr → Parser Expr
  branches at condition = do
    token
    middle ← expression_if_any
    expect (Mark_ mark.Colon)
    other ← coalesce
    pure (e.Conditional at condition middle other)

  unfoldable pub conditional : Parser Expr
  conditional = do
    at ← place
    condition ← coalesce
    (λ i. if sees (Mark_ mark.Question) i.left then branches at condition i else Ok (condition, i))

  abbrev pub assigned_by : Place → Expr → Option AssignOperator → Parser Expr
  assigned_by at target None = pure target
  assigned_by at target (Some o) = token >> (e.Assign at target o <$> expression)

  unfoldable pub whole : Parser Expr
  whole = do
    at ← place
    target ← conditional
    (λ i. assigned_by at target (assign_operator (next_kind i.left)) i)

  abbrev pub opened : Nested → Parser Expr
  opened nested_kind.Expression = whole
  opened nested_kind.Operated = operated

-- what counts as nesting, where so many rows that count may be opened
unfoldable pub nests : ℕ → Nested → Parser Expr
nests zero what = refuse_depth
nests (suc depth) what = opened depth (nests depth) what

-- an expression, where so many rows that count as nesting may be opened
abbrev pub expression_at : ℕ → Parser Expr
expression_at depth = nests depth nested_kind.Expression
