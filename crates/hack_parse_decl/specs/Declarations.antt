-- The parsers of declarations and files.
use Rattle.std.specs.Prelude.{if◌then◌else◌, Bool, List, [], ◌∷◌, length, Option, None, Some, Ok}
use Rattle.hack_types.specs.declared.place.Place.{Place}
use Rattle.hack_lexer.specs.declared.kind.Mark.TheVariants as mark
use Rattle.hack_lexer.specs.declared.kind.Keyword.{Keyword}
use Rattle.hack_lexer.specs.declared.kind.Keyword.TheVariants as keyword
use Rattle.hack_tree.specs.declared.written_type.WrittenType.{WrittenType}
use Rattle.hack_tree.specs.declared.written_type.ClassType.{ClassType}
use Rattle.hack_tree.specs.declared.expression.Expr.{Expr}
use Rattle.hack_tree.specs.declared.statement.Stmt.{Stmt}
use Rattle.hack_tree.specs.declared.declaration.Visibility.{Visibility}
use Rattle.hack_tree.specs.declared.declaration.Modifier.{Modifier}
use Rattle.hack_tree.specs.declared.declaration.ClassModifier.{ClassModifier}
use Rattle.hack_tree.specs.declared.declaration.Variance.{Variance}
use Rattle.hack_tree.specs.declared.declaration.BoundKind.{BoundKind}
use Rattle.hack_tree.specs.declared.declaration.DeclaredName.{DeclaredName}
use Rattle.hack_tree.specs.declared.declaration.Attribute.{Attribute}
use Rattle.hack_tree.specs.declared.declaration.Bound.{Bound}
use Rattle.hack_tree.specs.declared.declaration.TypeParameter.{TypeParameter}
use Rattle.hack_tree.specs.declared.declaration.Parameter.{Parameter}
use Rattle.hack_tree.specs.declared.declaration.Callable.{Callable}
use Rattle.hack_tree.specs.declared.declaration.Member.{Member}
use Rattle.hack_tree.specs.declared.declaration.Member.TheVariants as member_tree
use Rattle.hack_tree.specs.declared.declaration.EnumCase.{EnumCase}
use Rattle.hack_tree.specs.declared.declaration.UnitTree.{UnitTree}
use Rattle.hack_tree.specs.declared.declaration.UnitTree.TheVariants as unit
use Rattle.hack_parse_decl.specs.declared.member.Valued.{Valued}
use Rattle.hack_parse_decl.specs.declared.declaration.ClassHead.{ClassHead}
use Rattle.hack_parse_decl.specs.declared.declaration.HeadParts.{HeadParts}
use Rattle.hack_parse_decl.specs.declared.declaration.EnumHead.{EnumHead}
use Rattle.hack_parse_decl.specs.declared.declaration.AliasParts.{AliasParts}
use Rattle.hack_parse_decl.specs.declared.declaration.ConstantParts.{ConstantParts}
use Rattle.hack_parse_expr.specs.declared.lexeme.Lexeme.{Lexeme}
use Rattle.hack_parse_expr.specs.declared.rows.DeclarationRow.{DeclarationRow}
use Rattle.hack_parse_expr.specs.declared.rows.DeclarationRow.TheVariants as row
use Rattle.hack_parse_expr.specs.declared.rows.MemberRow.{MemberRow}
use Rattle.hack_parse_expr.specs.declared.rows.MemberRow.TheVariants as member_kind
use Rattle.hack_parse_expr.specs.Decides.{is_there, declaration_row, member_row, visibility, modifier, class_modifier, variance, bound_kind}
use Rattle.hack_parse_expr.specs.Kinds.{next_kind}
use Rattle.hack_parse_expr.specs.Symbols.{Mark_, Keyword_, Name, Variable, Word, Declared}
use Rattle.hack_parse_expr.specs.Rows.{sees, declared_name, or_empty, begins_attributes, begins_declaration, begins_type_parameter, begins_parameter, begins_member, begins_interface_member}
use Rattle.hack_parse_expr.specs.Run.{deepest}
use Rattle.hack_parse_expr.specs.Parsers.{Parser, ◌>>=◌, ◌>>◌, ◌<$>◌, pure, refuse, token, expect, eat, place, starting, finishing, optionally, many_of, list_of, list_from}
use Rattle.hack_parse_expr.specs.Types.{written_type, named}
use Rattle.hack_parse_expr.specs.Expressions.{nests, expression_at, arguments_if_any}
use Rattle.hack_parse_stmt.specs.Statements.{statement, block}

abbrev pub type_read : Parser WrittenType
type_read = written_type deepest

abbrev pub class_type : Parser ClassType
class_type = named (written_type deepest)

abbrev pub expression : Parser Expr
expression = expression_at deepest

abbrev pub body_read : Parser (List Stmt)
body_read = block deepest (statement deepest)

abbrev pub name_read : Parser DeclaredName
name_read = declared_name <$> expect Name

abbrev pub word_read : Parser DeclaredName
word_read = declared_name <$> expect Word

abbrev pub variable_read : Parser DeclaredName
variable_read = declared_name <$> expect Variable

-- ---- attributes

unfoldable pub attribute : Parser Attribute
attribute = do
  name ← name_read
  arguments ← arguments_if_any deepest (nests deepest)
  pure (record { name = name; arguments = or_empty arguments })

unfoldable pub attribute_list : Parser (List Attribute)
attribute_list = do
  first ← attribute
  more ← eat (Mark_ mark.Comma)
  if more then (λ i. list_from (sees Name) attribute (length i.left) (first ∷ []) i) else pure (first ∷ [])

unfoldable pub attributes : Parser (List Attribute)
attributes = do
  token
  found ← attribute_list
  expect (Mark_ mark.Greater)
  expect (Mark_ mark.Greater)
  pure found

unfoldable pub attributes_if_any : Parser (List Attribute)
attributes_if_any = λ i. if begins_attributes i.left then attributes i else Ok ([], i)

-- ---- type parameters

abbrev pub variance_by : Option Variance → Parser (Option Variance)
variance_by None = pure None
variance_by (Some v) = token >> pure (Some v)

unfoldable pub variance_if_any : Parser (Option Variance)
variance_if_any = λ i. variance_by (variance (next_kind i.left)) i

abbrev pub begins_bound : List Lexeme → Bool
begins_bound ts = is_there (bound_kind (next_kind ts))

abbrev pub bound_by : Option BoundKind → Parser Bound
bound_by None = refuse
bound_by (Some k) = do
  token
  t ← type_read
  pure (record { kind = k; written = t })

unfoldable pub bound : Parser Bound
bound = λ i. bound_by (bound_kind (next_kind i.left)) i

unfoldable pub bounds : Parser (List Bound)
bounds = many_of begins_bound bound

unfoldable pub type_parameter : Parser TypeParameter
type_parameter = do
  sign ← variance_if_any
  name ← name_read
  found ← bounds
  pure (record { variance = sign; name = name; bounds = found })

unfoldable pub type_parameter_list : Parser (List TypeParameter)
type_parameter_list = do
  first ← type_parameter
  more ← eat (Mark_ mark.Comma)
  if more then (λ i. list_from begins_type_parameter type_parameter (length i.left) (first ∷ []) i) else pure (first ∷ [])

unfoldable pub type_parameters : Parser (List TypeParameter)
type_parameters = do
  token
  found ← type_parameter_list
  expect (Mark_ mark.Greater)
  pure found

unfoldable pub type_parameters_if_any : Parser (List TypeParameter)
type_parameters_if_any = λ i. if sees (Mark_ mark.Less) i.left then type_parameters i else Ok ([], i)

-- ---- parameters and signatures

abbrev pub visibility_by : Option Visibility → Parser (Option Visibility)
visibility_by None = pure None
visibility_by (Some v) = token >> pure (Some v)

unfoldable pub visibility_if_any : Parser (Option Visibility)
visibility_if_any = λ i. visibility_by (visibility (next_kind i.left)) i

-- `=` and an expression
unfoldable pub default_value : Parser Expr
default_value = do
  expect (Mark_ mark.Assign)
  expression

unfoldable pub default_if_any : Parser (Option Expr)
default_if_any = optionally (sees (Mark_ mark.Assign)) default_value

-- the same, each with a `;` behind it
unfoldable pub value_closed : Parser Expr
value_closed = do
  value ← default_value
  expect (Mark_ mark.Semicolon)
  pure value

unfoldable pub value_closed_if_any : Parser (Option Expr)
value_closed_if_any = do
  value ← default_if_any
  expect (Mark_ mark.Semicolon)
  pure value

unfoldable pub parameter : Parser Parameter
parameter = do
  found ← attributes_if_any
  shown ← visibility_if_any
  written ← type_read
  name ← variable_read
  value ← default_if_any
  pure (record { attributes = found; visibility = shown; written = written; name = name; default = value })

unfoldable pub parameter_list : Parser (List Parameter)
parameter_list = list_of begins_parameter parameter

unfoldable pub parameters : Parser (List Parameter)
parameters = do
  expect (Mark_ mark.OpenParen)
  found ← parameter_list
  expect (Mark_ mark.CloseParen)
  pure found

unfoldable pub result_if_any : Parser (Option WrittenType)
result_if_any = optionally (sees (Mark_ mark.Colon)) (token >> type_read)

unfoldable pub signature : DeclaredName → Parser Callable
signature name = do
  types ← type_parameters_if_any
  found ← parameters
  answer ← result_if_any
  pure (record { name = name; type_parameters = types; parameters = found; result = answer })

-- ---- members

abbrev pub begins_modifier : List Lexeme → Bool
begins_modifier ts = is_there (modifier (next_kind ts))

abbrev pub modifier_by : Option Modifier → Parser Modifier
modifier_by None = refuse
modifier_by (Some m) = token >> pure m

unfoldable pub modifier_read : Parser Modifier
modifier_read = λ i. modifier_by (modifier (next_kind i.left)) i

unfoldable pub modifiers : Parser (List Modifier)
modifiers = many_of begins_modifier modifier_read

unfoldable pub method_body : Parser (Option (List Stmt))
method_body = λ i.
    if sees (Mark_ mark.OpenBrace) i.left then ((λ body. Some body) <$> body_read) i
    else (expect (Mark_ mark.Semicolon) >> pure None) i

-- what stands behind the modifiers of a constant, and of a property
unfoldable pub constant_valued : Parser Valued
constant_valued = do
  token
  written ← type_read
  name ← name_read
  value ← value_closed_if_any
  pure (record { written = written; name = name; value = value })

unfoldable pub property_valued : Parser Valued
property_valued = do
  written ← type_read
  name ← variable_read
  value ← value_closed_if_any
  pure (record { written = written; name = name; value = value })

module _ (at : Place) (before : List Attribute) (words : List Modifier) where
  unfoldable pub constant_member : Parser Member
  constant_member = do
    v ← constant_valued
    pure (member_tree.Constant at before words v.written v.name v.value)

  unfoldable pub method_member : Parser Member
  method_member = do
    token
    name ← word_read
    callable ← signature name
    body ← method_body
    pure (member_tree.Method at before words callable body)

  unfoldable pub property_member : Parser Member
  property_member = do
    v ← property_valued
    pure (member_tree.Property at before words v.written v.name v.value)

  abbrev pub member_by : Option MemberRow → Parser Member
  member_by None = refuse
  member_by (Some member_kind.Constant) = constant_member
  member_by (Some member_kind.Method) = method_member
  member_by (Some member_kind.Property) = property_member

  unfoldable pub member_body : Parser Member
  member_body = λ i. member_by (member_row (next_kind i.left)) i

  -- an interface has no properties
  abbrev pub interface_by : Option MemberRow → Parser Member
  interface_by None = refuse
  interface_by (Some member_kind.Constant) = constant_member
  interface_by (Some member_kind.Method) = method_member
  interface_by (Some member_kind.Property) = refuse

  unfoldable pub interface_body : Parser Member
  interface_body = λ i. interface_by (member_row (next_kind i.left)) i

unfoldable pub class_types : Parser (List ClassType)
class_types = do
  first ← class_type
  more ← eat (Mark_ mark.Comma)
  if more then (λ i. list_from (sees Name) class_type (length i.left) (first ∷ []) i) else pure (first ∷ [])

-- the types behind this keyword, if it comes next
unfoldable pub types_behind : Keyword → Parser (List ClassType)
types_behind k = λ i. if sees (Keyword_ k) i.left then (token >> class_types) i else Ok ([], i)

unfoldable pub use_member : Parser Member
use_member = do
  t ← token
  traits ← class_types
  expect (Mark_ mark.Semicolon)
  pure (member_tree.Use t.at traits)

unfoldable pub plain_member : Parser Member
plain_member = do
  at ← place
  before ← attributes_if_any
  words ← modifiers
  member_body at before words

unfoldable pub member : Parser Member
member = λ i. if sees (Keyword_ keyword.Use) i.left then use_member i else plain_member i

unfoldable pub interface_member : Parser Member
interface_member = do
  at ← place
  before ← attributes_if_any
  words ← modifiers
  interface_body at before words

unfoldable pub member_list : Parser (List Member)
member_list = many_of begins_member member

unfoldable pub interface_member_list : Parser (List Member)
interface_member_list = many_of begins_interface_member interface_member

unfoldable pub members : Parser (List Member)
members = do
  expect (Mark_ mark.OpenBrace)
  found ← member_list
  expect (Mark_ mark.CloseBrace)
  pure found

unfoldable pub interface_members : Parser (List Member)
interface_members = do
  expect (Mark_ mark.OpenBrace)
  found ← interface_member_list
  expect (Mark_ mark.CloseBrace)
  pure found

-- ---- declarations

abbrev pub begins_class_modifier : List Lexeme → Bool
begins_class_modifier ts = is_there (class_modifier (next_kind ts))

abbrev pub class_modifier_by : Option ClassModifier → Parser ClassModifier
class_modifier_by None = refuse
class_modifier_by (Some m) = token >> pure m

unfoldable pub class_modifier_read : Parser ClassModifier
class_modifier_read = λ i. class_modifier_by (class_modifier (next_kind i.left)) i

unfoldable pub class_modifiers : Parser (List ClassModifier)
class_modifiers = many_of begins_class_modifier class_modifier_read

-- `extends` and a type
unfoldable pub extends_if_any : Parser (Option ClassType)
extends_if_any = optionally (sees (Keyword_ keyword.Extends)) (token >> class_type)

unfoldable pub bound_if_any : Parser (Option WrittenType)
bound_if_any = optionally (sees (Keyword_ keyword.As)) (token >> type_read)

unfoldable pub enum_case : Parser EnumCase
enum_case = do
  name ← name_read
  value ← value_closed
  pure (record { name = name; value = value })

unfoldable pub enum_cases : Parser (List EnumCase)
enum_cases = many_of (sees Name) enum_case

-- the modifiers of a class, with `class` behind them
unfoldable pub class_words : Parser (List ClassModifier)
class_words = do
  words ← class_modifiers
  expect (Keyword_ keyword.Class)
  pure words

-- what stands between `class` and the members
unfoldable pub class_head : Parser ClassHead
class_head = do
  name ← name_read
  types ← type_parameters_if_any
  extends ← extends_if_any
  implements ← types_behind keyword.Implements
  pure (record { name = name; type_parameters = types; extends = extends; implements = implements })

-- what stands before the members of an interface or a trait, whose types above it stand behind this keyword
unfoldable pub head : Keyword → Parser HeadParts
head k = do
  token
  name ← name_read
  types ← type_parameters_if_any
  above ← types_behind k
  pure (record { name = name; type_parameters = types; above = above })

-- what stands before the cases of an enum
unfoldable pub enum_head : Parser EnumHead
enum_head = do
  token
  name ← name_read
  expect (Mark_ mark.Colon)
  base ← type_read
  bound ← bound_if_any
  pure (record { name = name; base = base; bound = bound })

-- cases in braces
unfoldable pub enum_block : Parser (List EnumCase)
enum_block = do
  expect (Mark_ mark.OpenBrace)
  found ← enum_cases
  expect (Mark_ mark.CloseBrace)
  pure found

-- `=`, a type and `;`
unfoldable pub type_closed : Parser WrittenType
type_closed = do
  expect (Mark_ mark.Assign)
  written ← type_read
  expect (Mark_ mark.Semicolon)
  pure written

-- what an alias says
unfoldable pub alias_parts : Parser AliasParts
alias_parts = do
  token
  name ← name_read
  types ← type_parameters_if_any
  written ← type_closed
  pure (record { name = name; type_parameters = types; written = written })

-- what a constant says
unfoldable pub constant_parts : Parser ConstantParts
constant_parts = do
  token
  written ← type_read
  name ← name_read
  value ← value_closed
  pure (record { written = written; name = name; value = value })

module _ (before : List Attribute) where
  unfoldable pub function : Parser UnitTree
  function = do
    token
    name ← name_read
    callable ← signature name
    body ← body_read
    pure (unit.Function before callable body)

  unfoldable pub class : Parser UnitTree
  class = do
    words ← class_words
    h ← class_head
    found ← members
    pure (unit.Class before words h.name h.type_parameters h.extends h.implements found)

  unfoldable pub interface : Parser UnitTree
  interface = do
    h ← head keyword.Extends
    found ← interface_members
    pure (unit.Interface before h.name h.type_parameters h.above found)

  unfoldable pub trait_unit : Parser UnitTree
  trait_unit = do
    h ← head keyword.Implements
    found ← members
    pure (unit.Trait before h.name h.type_parameters h.above found)

  unfoldable pub enum_unit : Parser UnitTree
  enum_unit = do
    h ← enum_head
    found ← enum_block
    pure (unit.Enum before h.name h.base h.bound found)

  unfoldable pub alias : Parser UnitTree
  alias = do
    a ← alias_parts
    pure (unit.Alias before a.name a.type_parameters a.written)

  unfoldable pub constant : Parser UnitTree
  constant = do
    c ← constant_parts
    pure (unit.Constant before c.written c.name c.value)

  abbrev pub declaration_by : Option DeclarationRow → Parser UnitTree
  declaration_by None = refuse
  declaration_by (Some row.Function) = function
  declaration_by (Some row.Class) = class
  declaration_by (Some row.Interface) = interface
  declaration_by (Some row.Trait) = trait_unit
  declaration_by (Some row.Enum) = enum_unit
  declaration_by (Some row.Alias) = alias
  declaration_by (Some row.Constant) = constant

  unfoldable pub declared : Parser UnitTree
  declared = λ i. declaration_by (declaration_row (next_kind i.left)) i

unfoldable pub declaration : Parser Declared
declaration = do
  first ← starting
  before ← attributes_if_any
  tree ← declared before
  behind ← finishing
  pure (record { first = first; tree = tree; behind = behind })

unfoldable pub declarations : Parser (List Declared)
declarations = many_of begins_declaration declaration
