-- Which row of the grammar the next token decides (docs/language.md, Grammar).
use Rattle.std.specs.Prelude.{◌==◌, ◌||◌, if◌then◌else◌, ℕ, Bool, true, false, Option, None, Some}
use Rattle.hack_lexer.specs.declared.kind.TokenKind.{TokenKind}
use Rattle.hack_lexer.specs.declared.kind.TokenKind.TheVariants as kind
use Rattle.hack_lexer.specs.declared.kind.Mark.{Mark}
use Rattle.hack_lexer.specs.declared.kind.Mark.TheVariants as mark
use Rattle.hack_lexer.specs.declared.kind.Keyword.{Keyword}
use Rattle.hack_lexer.specs.declared.kind.Keyword.TheVariants as keyword
use Rattle.hack_tree.specs.declared.written_type.Primitive.TheVariants as primitive
use Rattle.hack_tree.specs.declared.written_type.Container.TheVariants as container
use Rattle.hack_tree.specs.declared.expression.AssignOperator.{AssignOperator}
use Rattle.hack_tree.specs.declared.expression.AssignOperator.TheVariants as assign
use Rattle.hack_tree.specs.declared.expression.BinaryOperator.{BinaryOperator}
use Rattle.hack_tree.specs.declared.expression.BinaryOperator.TheVariants as binary
use Rattle.hack_tree.specs.declared.expression.PrefixOperator.{PrefixOperator}
use Rattle.hack_tree.specs.declared.expression.PrefixOperator.TheVariants as prefix
use Rattle.hack_tree.specs.declared.expression.CastType.{CastType}
use Rattle.hack_tree.specs.declared.expression.CastType.TheVariants as cast
use Rattle.hack_tree.specs.declared.expression.TestOperator.{TestOperator}
use Rattle.hack_tree.specs.declared.expression.TestOperator.TheVariants as test
use Rattle.hack_parse_expr.specs.declared.rows.TypeRow.{TypeRow}
use Rattle.hack_parse_expr.specs.declared.rows.TypeRow.TheVariants as type
use Rattle.hack_parse_expr.specs.declared.rows.Level.{Level}
use Rattle.hack_parse_expr.specs.declared.rows.Level.TheVariants as level
use Rattle.hack_parse_expr.specs.declared.rows.UnaryRow.{UnaryRow}
use Rattle.hack_parse_expr.specs.declared.rows.UnaryRow.TheVariants as unary
use Rattle.hack_parse_expr.specs.declared.rows.PrimaryRow.{PrimaryRow}
use Rattle.hack_parse_expr.specs.declared.rows.PrimaryRow.TheVariants as primary
use Rattle.hack_parse_expr.specs.declared.rows.ClassWord.{ClassWord}
use Rattle.hack_parse_expr.specs.declared.rows.ClassWord.TheVariants as class
use Rattle.hack_tree.specs.declared.declaration.Visibility.{Visibility}
use Rattle.hack_tree.specs.declared.declaration.Visibility.TheVariants as visible
use Rattle.hack_tree.specs.declared.declaration.Modifier.{Modifier}
use Rattle.hack_tree.specs.declared.declaration.Modifier.TheVariants as modifiers
use Rattle.hack_tree.specs.declared.declaration.ClassModifier.{ClassModifier}
use Rattle.hack_tree.specs.declared.declaration.ClassModifier.TheVariants as class_modifiers
use Rattle.hack_tree.specs.declared.declaration.Variance.{Variance}
use Rattle.hack_tree.specs.declared.declaration.Variance.TheVariants as variances
use Rattle.hack_tree.specs.declared.declaration.BoundKind.{BoundKind}
use Rattle.hack_tree.specs.declared.declaration.BoundKind.TheVariants as bounds
use Rattle.hack_parse_expr.specs.declared.rows.SuffixRow.{SuffixRow}
use Rattle.hack_parse_expr.specs.declared.rows.SuffixRow.TheVariants as suffix
use Rattle.hack_parse_expr.specs.declared.rows.StatementRow.{StatementRow}
use Rattle.hack_parse_expr.specs.declared.rows.StatementRow.TheVariants as statement
use Rattle.hack_parse_expr.specs.declared.rows.DeclarationRow.{DeclarationRow}
use Rattle.hack_parse_expr.specs.declared.rows.DeclarationRow.TheVariants as declaration
use Rattle.hack_parse_expr.specs.declared.rows.MemberRow.{MemberRow}
use Rattle.hack_parse_expr.specs.declared.rows.MemberRow.TheVariants as member

-- the row of a type that begins with this keyword
abbrev pub type_row_of_keyword : Keyword → Option TypeRow
type_row_of_keyword keyword.Arraykey = Some (type.Primitive primitive.ArrayKey)
type_row_of_keyword keyword.Bool = Some (type.Primitive primitive.Bool)
type_row_of_keyword keyword.Float = Some (type.Primitive primitive.Float)
type_row_of_keyword keyword.Int = Some (type.Primitive primitive.Int)
type_row_of_keyword keyword.Mixed = Some (type.Primitive primitive.Mixed)
type_row_of_keyword keyword.Nonnull = Some (type.Primitive primitive.NonNull)
type_row_of_keyword keyword.Noreturn = Some (type.Primitive primitive.NoReturn)
type_row_of_keyword keyword.Nothing = Some (type.Primitive primitive.Nothing)
type_row_of_keyword keyword.Null = Some (type.Primitive primitive.Null)
type_row_of_keyword keyword.Num = Some (type.Primitive primitive.Num)
type_row_of_keyword keyword.String = Some (type.Primitive primitive.String)
type_row_of_keyword keyword.Void = Some (type.Primitive primitive.Void)
type_row_of_keyword keyword.This = Some type.This
type_row_of_keyword keyword.Vec = Some (type.Container container.Vec)
type_row_of_keyword keyword.Keyset = Some (type.Container container.Keyset)
type_row_of_keyword keyword.Dict = Some type.Dict
type_row_of_keyword keyword.Shape = Some type.Shape
type_row_of_keyword _ = None

abbrev pub type_row_of_mark : Mark → Option TypeRow
type_row_of_mark mark.Question = Some type.Optional
type_row_of_mark _ = None

-- the row of a type that begins with this token
abbrev pub type_row : Option TokenKind → Option TypeRow
type_row (Some kind.Name) = Some type.Class
type_row (Some (kind.Mark m)) = type_row_of_mark m
type_row (Some (kind.Keyword k)) = type_row_of_keyword k
type_row (Some _) = None
type_row None = None

-- the assignment that this token is the operator of
abbrev pub assign_operator_of_mark : Mark → Option AssignOperator
assign_operator_of_mark mark.Assign = Some assign.Assign
assign_operator_of_mark mark.PlusAssign = Some assign.Add
assign_operator_of_mark mark.MinusAssign = Some assign.Subtract
assign_operator_of_mark mark.StarAssign = Some assign.Multiply
assign_operator_of_mark mark.SlashAssign = Some assign.Divide
assign_operator_of_mark mark.PercentAssign = Some assign.Remainder
assign_operator_of_mark mark.DotAssign = Some assign.Concat
assign_operator_of_mark mark.AndAssign = Some assign.BitAnd
assign_operator_of_mark mark.OrAssign = Some assign.BitOr
assign_operator_of_mark mark.XorAssign = Some assign.BitXor
assign_operator_of_mark mark.PowerAssign = Some assign.Power
assign_operator_of_mark mark.CoalesceAssign = Some assign.Coalesce
assign_operator_of_mark _ = None

abbrev pub assign_operator : Option TokenKind → Option AssignOperator
assign_operator (Some (kind.Mark m)) = assign_operator_of_mark m
assign_operator (Some _) = None
assign_operator None = None

-- the binary operator that this mark is
abbrev pub binary_operator : Mark → Option BinaryOperator
binary_operator mark.Coalesce = Some binary.Coalesce
binary_operator mark.OrOr = Some binary.Or
binary_operator mark.AndAnd = Some binary.And
binary_operator mark.Or = Some binary.BitOr
binary_operator mark.Xor = Some binary.BitXor
binary_operator mark.And = Some binary.BitAnd
binary_operator mark.Equal = Some binary.Equal
binary_operator mark.NotEqual = Some binary.NotEqual
binary_operator mark.Identical = Some binary.Identical
binary_operator mark.NotIdentical = Some binary.NotIdentical
binary_operator mark.Less = Some binary.Less
binary_operator mark.LessEqual = Some binary.LessEqual
binary_operator mark.Greater = Some binary.Greater
binary_operator mark.GreaterEqual = Some binary.GreaterEqual
binary_operator mark.Spaceship = Some binary.Spaceship
binary_operator mark.Plus = Some binary.Add
binary_operator mark.Minus = Some binary.Subtract
binary_operator mark.Dot = Some binary.Concat
binary_operator mark.Star = Some binary.Multiply
binary_operator mark.Slash = Some binary.Divide
binary_operator mark.Percent = Some binary.Remainder
binary_operator _ = None

-- the level of an operator, and how many levels are looser
abbrev pub level_of : BinaryOperator → Level
level_of binary.Coalesce = level.Coalesce
level_of binary.Or = level.Or
level_of binary.And = level.And
level_of binary.BitOr = level.BitOr
level_of binary.BitXor = level.BitXor
level_of binary.BitAnd = level.BitAnd
level_of binary.Equal = level.Equality
level_of binary.NotEqual = level.Equality
level_of binary.Identical = level.Equality
level_of binary.NotIdentical = level.Equality
level_of binary.Less = level.Relation
level_of binary.LessEqual = level.Relation
level_of binary.Greater = level.Relation
level_of binary.GreaterEqual = level.Relation
level_of binary.Spaceship = level.Relation
level_of binary.Add = level.Sum
level_of binary.Subtract = level.Sum
level_of binary.Concat = level.Sum
level_of binary.Multiply = level.Product
level_of binary.Divide = level.Product
level_of binary.Remainder = level.Product

abbrev pub rank : Level → ℕ
rank level.Coalesce = 0
rank level.Or = 1
rank level.And = 2
rank level.BitOr = 3
rank level.BitXor = 4
rank level.BitAnd = 5
rank level.Equality = 6
rank level.Relation = 7
rank level.Sum = 8
rank level.Product = 9

-- the operator, if it is of this level
abbrev pub at_level : Level → Option BinaryOperator → Option BinaryOperator
at_level l None = None
at_level l (Some o) = if rank (level_of o) == rank l then Some o else None

-- the operator of this level that this token is
abbrev pub operator : Level → Option TokenKind → Option BinaryOperator
operator l (Some (kind.Mark m)) = at_level l (binary_operator m)
operator l (Some _) = None
operator l None = None

-- the row of a unary that begins with a prefix operator
abbrev pub prefix_operator : Mark → Option PrefixOperator
prefix_operator mark.Not = Some prefix.Not
prefix_operator mark.Minus = Some prefix.Minus
prefix_operator mark.Plus = Some prefix.Plus
prefix_operator mark.Tilde = Some prefix.BitNot
prefix_operator mark.Increment = Some prefix.Increment
prefix_operator mark.Decrement = Some prefix.Decrement
prefix_operator _ = None

-- the type of a cast that has this token behind its bracket
abbrev pub cast_type : Option TokenKind → Option CastType
cast_type (Some (kind.Keyword keyword.Int)) = Some cast.Int
cast_type (Some (kind.Keyword keyword.Float)) = Some cast.Float
cast_type (Some (kind.Keyword keyword.String)) = Some cast.String
cast_type (Some (kind.Keyword keyword.Bool)) = Some cast.Bool
cast_type (Some _) = None
cast_type None = None

abbrev pub row_of_prefix : Option PrefixOperator → Option UnaryRow
row_of_prefix (Some operator) = Some (unary.Prefix operator)
row_of_prefix None = None

abbrev pub row_of_cast : Option CastType → Option UnaryRow
row_of_cast (Some to) = Some (unary.Cast to)
row_of_cast None = None

-- the row of a unary that begins with these two tokens, if it is one that has an operator before its operand
abbrev pub unary_row : Option TokenKind → Option TokenKind → Option UnaryRow
unary_row (Some (kind.Mark mark.OpenParen)) second = row_of_cast (cast_type second)
unary_row (Some (kind.Mark m)) second = row_of_prefix (prefix_operator m)
unary_row (Some _) second = None
unary_row None second = None

-- the test of a type that this token begins
abbrev pub test_operator : Option TokenKind → Option TestOperator
test_operator (Some (kind.Keyword keyword.Is)) = Some test.Is
test_operator (Some (kind.Keyword keyword.As)) = Some test.As
test_operator (Some (kind.Mark mark.NullAs)) = Some test.NullAs
test_operator (Some _) = None
test_operator None = None

-- the row behind an operand that begins with this token
abbrev pub suffix_row : Option TokenKind → Option SuffixRow
suffix_row (Some (kind.Mark mark.OpenBracket)) = Some suffix.Index
suffix_row (Some (kind.Mark mark.Arrow)) = Some suffix.Member
suffix_row (Some (kind.Mark mark.NullArrow)) = Some suffix.NullMember
suffix_row (Some (kind.Mark mark.Increment)) = Some suffix.Increment
suffix_row (Some (kind.Mark mark.Decrement)) = Some suffix.Decrement
suffix_row (Some _) = None
suffix_row None = None

abbrev pub class_word : Keyword → Option ClassWord
class_word keyword.Self_ = Some class.Self_
class_word keyword.Static = Some class.Static
class_word keyword.Parent = Some class.Parent
class_word _ = None

abbrev pub primary_row_of_keyword : Keyword → Option PrimaryRow
primary_row_of_keyword keyword.True = Some primary.True
primary_row_of_keyword keyword.False = Some primary.False
primary_row_of_keyword keyword.Null = Some primary.Null
primary_row_of_keyword keyword.Self_ = Some (primary.ClassWord class.Self_)
primary_row_of_keyword keyword.Static = Some (primary.ClassWord class.Static)
primary_row_of_keyword keyword.Parent = Some (primary.ClassWord class.Parent)
primary_row_of_keyword keyword.New = Some primary.New
primary_row_of_keyword keyword.Vec = Some (primary.Container container.Vec)
primary_row_of_keyword keyword.Keyset = Some (primary.Container container.Keyset)
primary_row_of_keyword keyword.Dict = Some primary.Dict
primary_row_of_keyword keyword.Shape = Some primary.Shape
primary_row_of_keyword _ = None

abbrev pub primary_row_of_mark : Mark → Option PrimaryRow
primary_row_of_mark mark.OpenParen = Some primary.Bracket
primary_row_of_mark _ = None

-- the row of an operand that begins with this token, without what may stand before it
abbrev pub primary_row : Option TokenKind → Option PrimaryRow
primary_row None = None
primary_row (Some kind.Name) = Some primary.Name
primary_row (Some kind.Variable) = Some primary.Variable
primary_row (Some kind.This) = Some primary.This
primary_row (Some kind.Int) = Some primary.Int
primary_row (Some kind.Float) = Some primary.Float
primary_row (Some kind.Text) = Some primary.Text
primary_row (Some kind.KeyText) = Some primary.KeyText
primary_row (Some (kind.Mark m)) = primary_row_of_mark m
primary_row (Some (kind.Keyword k)) = primary_row_of_keyword k

-- ---- statements and declarations

abbrev pub is_there : {A : Type 0} → Option A → Bool
is_there None = false
is_there (Some _) = true

-- the row, if there is something
abbrev pub where_some : {A B : Type 0} → Option A → B → Option B
where_some None row = None
where_some (Some _) row = Some row

abbrev pub statement_row_of_keyword : Keyword → Option StatementRow
statement_row_of_keyword keyword.If = Some statement.If
statement_row_of_keyword keyword.While = Some statement.While
statement_row_of_keyword keyword.Do = Some statement.DoWhile
statement_row_of_keyword keyword.For = Some statement.For
statement_row_of_keyword keyword.Foreach = Some statement.Foreach
statement_row_of_keyword keyword.Switch = Some statement.Switch
statement_row_of_keyword keyword.Return = Some statement.Return
statement_row_of_keyword keyword.Throw = Some statement.Throw
statement_row_of_keyword keyword.Break = Some statement.Break
statement_row_of_keyword keyword.Continue = Some statement.Continue
statement_row_of_keyword keyword.Echo = Some statement.Echo
statement_row_of_keyword keyword.Try = Some statement.Try
statement_row_of_keyword k = where_some (primary_row_of_keyword k) statement.Expression

-- an expression begins with an operator, a cast or an operand
abbrev pub expression_at : Option TokenKind → Option TokenKind → Option StatementRow
expression_at first second = if is_there (unary_row first second) || is_there (primary_row first) then Some statement.Expression else None

-- the row of a statement that begins with these two tokens
abbrev pub statement_row : Option TokenKind → Option TokenKind → Option StatementRow
statement_row (Some (kind.Mark mark.OpenBrace)) second = Some statement.Block
statement_row (Some (kind.Mark mark.Semicolon)) second = Some statement.Empty
statement_row (Some (kind.Keyword k)) second = statement_row_of_keyword k
statement_row first second = expression_at first second

-- the row of a declaration that begins with this token, behind its attributes
abbrev pub declaration_row : Option TokenKind → Option DeclarationRow
declaration_row (Some (kind.Keyword keyword.Function)) = Some declaration.Function
declaration_row (Some (kind.Keyword keyword.Abstract)) = Some declaration.Class
declaration_row (Some (kind.Keyword keyword.Final)) = Some declaration.Class
declaration_row (Some (kind.Keyword keyword.Class)) = Some declaration.Class
declaration_row (Some (kind.Keyword keyword.Interface)) = Some declaration.Interface
declaration_row (Some (kind.Keyword keyword.Trait)) = Some declaration.Trait
declaration_row (Some (kind.Keyword keyword.Enum)) = Some declaration.Enum
declaration_row (Some (kind.Keyword keyword.Type_)) = Some declaration.Alias
declaration_row (Some (kind.Keyword keyword.Const)) = Some declaration.Constant
declaration_row (Some _) = None
declaration_row None = None

-- the row of a member that begins with this token, behind its attributes and modifiers
abbrev pub member_row : Option TokenKind → Option MemberRow
member_row (Some (kind.Keyword keyword.Const)) = Some member.Constant
member_row (Some (kind.Keyword keyword.Function)) = Some member.Method
member_row k = where_some (type_row k) member.Property

abbrev pub visibility : Option TokenKind → Option Visibility
visibility (Some (kind.Keyword keyword.Public)) = Some visible.Public
visibility (Some (kind.Keyword keyword.Protected)) = Some visible.Protected
visibility (Some (kind.Keyword keyword.Private)) = Some visible.Private
visibility (Some _) = None
visibility None = None

abbrev pub modifier : Option TokenKind → Option Modifier
modifier (Some (kind.Keyword keyword.Public)) = Some (modifiers.Visibility visible.Public)
modifier (Some (kind.Keyword keyword.Protected)) = Some (modifiers.Visibility visible.Protected)
modifier (Some (kind.Keyword keyword.Private)) = Some (modifiers.Visibility visible.Private)
modifier (Some (kind.Keyword keyword.Abstract)) = Some modifiers.Abstract
modifier (Some (kind.Keyword keyword.Final)) = Some modifiers.Final
modifier (Some (kind.Keyword keyword.Static)) = Some modifiers.Static
modifier (Some _) = None
modifier None = None

abbrev pub class_modifier : Option TokenKind → Option ClassModifier
class_modifier (Some (kind.Keyword keyword.Abstract)) = Some class_modifiers.Abstract
class_modifier (Some (kind.Keyword keyword.Final)) = Some class_modifiers.Final
class_modifier (Some _) = None
class_modifier None = None

abbrev pub variance : Option TokenKind → Option Variance
variance (Some (kind.Mark mark.Plus)) = Some variances.Covariant
variance (Some (kind.Mark mark.Minus)) = Some variances.Contravariant
variance (Some _) = None
variance None = None

abbrev pub bound_kind : Option TokenKind → Option BoundKind
bound_kind (Some (kind.Keyword keyword.As)) = Some bounds.As
bound_kind (Some (kind.Keyword keyword.Super)) = Some bounds.Super
bound_kind (Some _) = None
bound_kind None = None
