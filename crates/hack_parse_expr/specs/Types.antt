-- The parsers of types.
use Rattle.std.specs.Prelude.{if◌then◌else◌, ℕ, zero, suc, Bool, true, false, List, [], ◌∷◌, ◌++◌, length, Option, None, Some, Ok}
use Rattle.hack_lexer.specs.declared.kind.Mark.TheVariants as mark
use Rattle.hack_tree.specs.declared.written_type.WrittenType.{WrittenType}
use Rattle.hack_tree.specs.declared.written_type.WrittenType.TheVariants as written
use Rattle.hack_tree.specs.declared.written_type.Container.{Container}
use Rattle.hack_tree.specs.declared.written_type.ClassType.{ClassType, roll-ClassType}
use Rattle.hack_tree.specs.declared.written_type.FieldType.{FieldType, roll-FieldType}
use Rattle.hack_parse_expr.specs.declared.lexeme.Lexeme.{Lexeme}
use Rattle.hack_parse_expr.specs.declared.rows.TypeRow.{TypeRow}
use Rattle.hack_parse_expr.specs.declared.rows.TypeRow.TheVariants as type
use Rattle.hack_parse_expr.specs.Decides.{is_there, type_row}
use Rattle.hack_parse_expr.specs.Kinds.{next_kind}
use Rattle.hack_parse_expr.specs.Symbols.{Mark_, Name, KeyText}
use Rattle.hack_parse_expr.specs.Rows.{sees, begins_field}
use Rattle.hack_parse_expr.specs.Parsers.{Parser, ◌>>=◌, ◌>>◌, ◌<$>◌, pure, refuse, refuse_depth, token, expect, eat, list_from}

-- the next token begins a type
unfoldable pub begins_type : List Lexeme → Bool
begins_type ts = is_there (type_row (next_kind ts))

abbrev pub begins_arguments : List Lexeme → Bool
begins_arguments ts = sees (Mark_ mark.Less) ts

-- the parser of a type that counts as one row more
module _ (nested : Parser WrittenType) where
  unfoldable pub list1 : Parser (List WrittenType)
  list1 = do
    first ← nested
    more ← eat (Mark_ mark.Comma)
    if more then (λ i. list_from begins_type nested (length i.left) (first ∷ []) i) else pure (first ∷ [])

  unfoldable pub type_arguments : Parser (List WrittenType)
  type_arguments = do
    expect (Mark_ mark.Less)
    types ← list1
    expect (Mark_ mark.Greater)
    pure types

  -- none where no `<` follows
  unfoldable pub arguments_if_any : Parser (List WrittenType)
  arguments_if_any = λ i. if begins_arguments i.left then type_arguments i else Ok ([], i)

  unfoldable pub named : Parser ClassType
  named = do
    name ← expect Name
    arguments ← arguments_if_any
    pure (roll-ClassType (record { at = name.at; name = name.name; arguments = arguments }))

  unfoldable pub optional : Parser WrittenType
  optional = do
    t ← token
    written.Optional t.at <$> nested

  unfoldable pub container : Container → Parser WrittenType
  container c = do
    t ← token
    expect (Mark_ mark.Less)
    element ← nested
    expect (Mark_ mark.Greater)
    pure (written.Container t.at c element)

  unfoldable pub dict : Parser WrittenType
  dict = do
    t ← token
    expect (Mark_ mark.Less)
    key ← nested
    expect (Mark_ mark.Comma)
    value ← nested
    expect (Mark_ mark.Greater)
    pure (written.Dict t.at key value)

  unfoldable pub field : Parser FieldType
  field = do
    is_optional ← eat (Mark_ mark.Question)
    key ← expect KeyText
    expect (Mark_ mark.FatArrow)
    value ← nested
    pure (roll-FieldType (record { optional = is_optional; key_at = key.at; key = key.name; value = value }))

  -- the fields, and whether `...` stands last; the number bounds the turns, as for lists
  unfoldable pub fields_from : ℕ → List FieldType → Parser (List FieldType × Bool)
  fields_from zero found = pure (found, false)
  fields_from (suc n) found = λ i.
      if sees (Mark_ mark.Ellipsis) i.left then (token >> pure (found, true)) i
      else (if begins_field i.left then (do
        x ← field
        more ← eat (Mark_ mark.Comma)
        if more then fields_from n (found ++ x ∷ []) else pure (found ++ x ∷ [], false)) i
      else Ok ((found, false), i))

  unfoldable pub fields : Parser (List FieldType × Bool)
  fields = λ i. fields_from (length i.left) [] i

  unfoldable pub shape : Parser WrittenType
  shape = do
    t ← token
    expect (Mark_ mark.OpenParen)
    found ← fields
    expect (Mark_ mark.CloseParen)
    pure (written.Shape t.at found.0 found.1)

  abbrev pub type_by : Option TypeRow → Parser WrittenType
  type_by (Some type.Optional) = optional
  type_by (Some (type.Primitive p)) = (λ t. written.Primitive t.at p) <$> token
  type_by (Some type.This) = (λ t. written.This t.at) <$> token
  type_by (Some (type.Container c)) = container c
  type_by (Some type.Dict) = dict
  type_by (Some type.Shape) = shape
  type_by (Some type.Class) = (λ c. written.Class c) <$> named
  type_by None = refuse

  unfoldable pub type_row_read : Parser WrittenType
  type_row_read = λ i. type_by (type_row (next_kind i.left)) i

-- a type in which so many rows that count as nesting may be opened
unfoldable pub written_type : ℕ → Parser WrittenType
written_type zero = λ i. if begins_type i.left then refuse_depth i else refuse i
written_type (suc depth) = type_row_read (written_type depth)
