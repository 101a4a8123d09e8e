-- The table of the grammar: for each symbol the row that the next token decides, with its parts and the tree that it
-- makes of them (docs/language.md, Grammar).
use Rattle.std.specs.Prelude.{◌==◌, ◌||◌, if◌then◌else◌, ℕ, Bool, true, false, List, [], ◌∷◌, Option, None, Some}
use Rattle.hack_types.specs.declared.place.Place.{Place}
use Rattle.hack_lexer.specs.declared.kind.TokenKind.{TokenKind}
use Rattle.hack_lexer.specs.declared.kind.TokenKind.TheVariants as kind
use Rattle.hack_lexer.specs.declared.kind.Mark.{Mark}
use Rattle.hack_lexer.specs.declared.kind.Mark.TheVariants as mark
use Rattle.hack_lexer.specs.declared.kind.Keyword.{Keyword}
use Rattle.hack_lexer.specs.declared.kind.Keyword.TheVariants as keyword
use Rattle.hack_lexer.specs.Kinds.{sort_of_kind}
use Rattle.hack_tree.specs.declared.written_type.WrittenType.{WrittenType}
use Rattle.hack_tree.specs.declared.written_type.WrittenType.TheVariants as written
use Rattle.hack_tree.specs.declared.written_type.ClassType.{ClassType, roll-ClassType}
use Rattle.hack_tree.specs.declared.written_type.FieldType.{FieldType, roll-FieldType}
use Rattle.hack_tree.specs.declared.expression.AssignOperator.{AssignOperator}
use Rattle.hack_tree.specs.declared.expression.BinaryOperator.{BinaryOperator}
use Rattle.hack_tree.specs.declared.expression.TestOperator.{TestOperator}
use Rattle.hack_tree.specs.declared.expression.ClassReference.{ClassReference}
use Rattle.hack_tree.specs.declared.expression.ClassReference.TheVariants as reference
use Rattle.hack_tree.specs.declared.expression.Literal.TheVariants as literal
use Rattle.hack_tree.specs.declared.expression.Expr.{Expr}
use Rattle.hack_tree.specs.declared.expression.Expr.TheVariants as e
use Rattle.hack_tree.specs.declared.expression.Operand.{Operand, roll-Operand}
use Rattle.hack_tree.specs.declared.expression.TypeTest.{TypeTest}
use Rattle.hack_tree.specs.declared.expression.Suffix.TheVariants as s
use Rattle.hack_tree.specs.declared.expression.ScopedMember.TheVariants as scoped
use Rattle.hack_tree.specs.declared.expression.Entry.{roll-Entry}
use Rattle.hack_tree.specs.declared.expression.FieldValue.{roll-FieldValue}
use Rattle.hack_parse_expr.specs.declared.lexeme.Lexeme.{Lexeme}
use Rattle.hack_parse_expr.specs.declared.rows.TypeRow.{TypeRow}
use Rattle.hack_parse_expr.specs.declared.rows.TypeRow.TheVariants as type
use Rattle.hack_parse_expr.specs.declared.rows.Level.{Level}
use Rattle.hack_parse_expr.specs.declared.rows.Level.TheVariants as level
use Rattle.hack_parse_expr.specs.declared.rows.UnaryRow.{UnaryRow}
use Rattle.hack_parse_expr.specs.declared.rows.UnaryRow.TheVariants as unary
use Rattle.hack_parse_expr.specs.declared.rows.PrimaryRow.{PrimaryRow}
use Rattle.hack_parse_expr.specs.declared.rows.PrimaryRow.TheVariants as primary
use Rattle.hack_parse_expr.specs.declared.rows.ClassWord.{ClassWord}
use Rattle.hack_parse_expr.specs.declared.rows.ClassWord.TheVariants as class
use Rattle.hack_parse_expr.specs.declared.rows.SuffixRow.{SuffixRow}
use Rattle.hack_parse_expr.specs.declared.rows.SuffixRow.TheVariants as suffix
use Rattle.hack_tree.specs.declared.statement.Stmt.{Stmt}
use Rattle.hack_tree.specs.declared.statement.Stmt.TheVariants as stmt
use Rattle.hack_tree.specs.declared.statement.Case.{roll-Case}
use Rattle.hack_tree.specs.declared.statement.Catch.{roll-Catch}
use Rattle.hack_tree.specs.declared.declaration.Visibility.{Visibility as VisibilityTree}
use Rattle.hack_tree.specs.declared.declaration.Modifier.{Modifier as ModifierTree}
use Rattle.hack_tree.specs.declared.declaration.ClassModifier.{ClassModifier as ClassModifierTree}
use Rattle.hack_tree.specs.declared.declaration.Variance.{Variance as VarianceTree}
use Rattle.hack_tree.specs.declared.declaration.BoundKind.{BoundKind}
use Rattle.hack_tree.specs.declared.declaration.DeclaredName.{DeclaredName}
use Rattle.hack_tree.specs.declared.declaration.Attribute.{Attribute as AttributeTree}
use Rattle.hack_tree.specs.declared.declaration.TypeParameter.{TypeParameter as TypeParameterTree}
use Rattle.hack_tree.specs.declared.declaration.Parameter.{Parameter as ParameterTree}
use Rattle.hack_tree.specs.declared.declaration.Callable.{Callable}
use Rattle.hack_tree.specs.declared.declaration.Member.{Member as MemberTree}
use Rattle.hack_tree.specs.declared.declaration.Member.TheVariants as member
use Rattle.hack_tree.specs.declared.declaration.UnitTree.{UnitTree}
use Rattle.hack_tree.specs.declared.declaration.UnitTree.TheVariants as unit
use Rattle.hack_parse_expr.specs.declared.rows.StatementRow.{StatementRow}
use Rattle.hack_parse_expr.specs.declared.rows.StatementRow.TheVariants as statement
use Rattle.hack_parse_expr.specs.declared.rows.DeclarationRow.{DeclarationRow}
use Rattle.hack_parse_expr.specs.declared.rows.DeclarationRow.TheVariants as declaration
use Rattle.hack_parse_expr.specs.declared.rows.MemberRow.{MemberRow}
use Rattle.hack_parse_expr.specs.declared.rows.MemberRow.TheVariants as member_kind
use Rattle.hack_parse_expr.specs.Kinds.{next_kind, second_kind, is_word}
use Rattle.hack_parse_expr.specs.Decides.{is_there, type_row, assign_operator, operator, unary_row, test_operator, suffix_row, primary_row, class_word, statement_row, declaration_row, member_row, visibility, modifier, class_modifier, variance, bound_kind}
use Rattle.hack_parse_expr.specs.Symbols.{Terminal, Mark_, Keyword_, Name, Variable, Word, KeyText, Decided, Rule, Type_, ClassType_, TypeArguments, Fields, MoreFields, Field, Expression, Assigned, Conditional, Branches, AtLevel, Tighter, Further, Unary, Power, Powers, Tested, Test, Postfix, Suffix, Primary, BehindName, ScopedMember, Arguments, NewClass, Entry, FieldValue, Statement, Block, Else, Variables, SecondVariable, Case, Catch, Finally, File, Declaration, Declared_, Attributes, Attribute, TypeParameters, TypeParameter, Variance, Bound, Signature, Parameters, Parameter, Visibility, Default, Result_, ClassModifier, Extends, ExtendsAll, Implements, EnumBound, EnumCase, Member, InterfaceMember, MemberBody, InterfaceBody, Modifier, MethodBody, Declared, Symbol, one, here, close, start, finish, optional, many, list, list1, more, rule, Of, Awaits, Row}

-- ---- tokens

-- the token is one of these
abbrev pub fits : Terminal → Lexeme → Bool
fits (Mark_ m) t = sort_of_kind t.kind == sort_of_kind (kind.Mark m)
fits (Keyword_ k) t = sort_of_kind t.kind == sort_of_kind (kind.Keyword k)
fits Name t = sort_of_kind t.kind == sort_of_kind kind.Name
fits Variable t = sort_of_kind t.kind == sort_of_kind kind.Variable
fits Word t = is_word t.kind
fits KeyText t = sort_of_kind t.kind == sort_of_kind kind.KeyText
fits Decided t = true

-- the next token is one of these
abbrev pub sees : Terminal → List Lexeme → Bool
sees terminal [] = false
sees terminal (t ∷ ts) = fits terminal t

-- ---- what a row is

abbrev pub reads : {x : Symbol} (parts : List Symbol) → Awaits parts (Of x) → Option (Row x)
reads parts makes = Some (record { counts = false; parts = parts; makes = makes })

-- a row that counts as nesting
abbrev pub nests : {x : Symbol} (parts : List Symbol) → Awaits parts (Of x) → Option (Row x)
nests parts makes = Some (record { counts = true; parts = parts; makes = makes })

-- this row, if the next token is this one
abbrev pub at_terminal : {x : Symbol} → Terminal → List Lexeme → Option (Row x) → Option (Row x)
at_terminal terminal ts r = if sees terminal ts then r else None

abbrev pub the_mark : Mark → Symbol
the_mark m = one (Mark_ m)

abbrev pub or_empty : {A : Type 0} → Option (List A) → List A
or_empty None = []
or_empty (Some xs) = xs

-- ---- types

abbrev pub type_rows : Option TypeRow → Option (Row (rule Type_))
type_rows None = None
type_rows (Some type.Optional) = nests (one Decided ∷ rule Type_ ∷ []) (λ t inner. written.Optional t.at inner)
type_rows (Some (type.Primitive p)) = nests (one Decided ∷ []) (λ t. written.Primitive t.at p)
type_rows (Some type.This) = nests (one Decided ∷ []) (λ t. written.This t.at)
type_rows (Some (type.Container c)) =
    nests (one Decided ∷ the_mark mark.Less ∷ rule Type_ ∷ the_mark mark.Greater ∷ []) (λ t _ element _. written.Container t.at c element)
type_rows (Some type.Dict) =
    nests (one Decided ∷ the_mark mark.Less ∷ rule Type_ ∷ the_mark mark.Comma ∷ rule Type_ ∷ the_mark mark.Greater ∷ [])
    (λ t _ key _ value _. written.Dict t.at key value)
type_rows (Some type.Shape) =
    nests (one Decided ∷ the_mark mark.OpenParen ∷ rule Fields ∷ the_mark mark.CloseParen ∷ [])
    (λ t _ fields _. written.Shape t.at fields.0 fields.1)
type_rows (Some type.Class) = nests (rule ClassType_ ∷ []) (λ c. written.Class c)

abbrev pub begins_field : List Lexeme → Bool
begins_field ts = sees (Mark_ mark.Question) ts || sees KeyText ts

abbrev pub fields_row : List Lexeme → Option (Row (rule Fields))
fields_row ts =
    if sees (Mark_ mark.Ellipsis) ts then reads (one Decided ∷ []) (λ _. ([], true))
    else (if begins_field ts then reads (rule Field ∷ rule MoreFields ∷ []) (λ field others. (field ∷ others.0, others.1))
    else reads [] ([], false))

abbrev pub more_fields_row : List Lexeme → Option (Row (rule MoreFields))
more_fields_row ts =
    if sees (Mark_ mark.Comma) ts then reads (one Decided ∷ rule Fields ∷ []) (λ _ fields. fields) else reads [] ([], false)

abbrev pub class_type : Lexeme → Option (List WrittenType) → ClassType
class_type name arguments = roll-ClassType (record { at = name.at; name = name.name; arguments = or_empty arguments })

abbrev pub field_type : Option Lexeme → Lexeme → WrittenType → FieldType
field_type mark key value = roll-FieldType (record { optional = is_there mark; key_at = key.at; key = key.name; value = value })

-- ---- expressions

-- an expression with the assignment behind it, if there is one
abbrev pub assigned : Place → Expr → Option (AssignOperator × Expr) → Expr
assigned at target None = target
assigned at target (Some a) = e.Assign at target a.0 a.1

abbrev pub conditional : Place → Expr → Option (Option Expr × Expr) → Expr
conditional at condition None = condition
conditional at condition (Some b) = e.Conditional at condition b.0 b.1

abbrev pub chain : Place → Expr → List Operand → Expr
chain at first [] = first
chain at first (x ∷ others) = e.Chain at first (x ∷ others)

abbrev pub power : Place → Expr → Option (List Expr) → Expr
power at first None = first
power at first (Some others) = e.Power at (first ∷ others)

abbrev pub tested : Place → Expr → List TypeTest → Expr
tested at operand [] = operand
tested at operand (x ∷ tests) = e.Test at operand (x ∷ tests)

abbrev pub postfix : Place → Expr → List (Of (rule Suffix)) → Expr
postfix at operand [] = operand
postfix at operand (x ∷ suffixes) = e.Postfix at operand (x ∷ suffixes)

-- an operand of a level is read at the next tighter level, and an operand of the tightest is a unary
abbrev pub operand_row : (l : Level) → Option (Row (rule (Tighter l)))
operand_row level.Coalesce = reads (rule (AtLevel level.Or) ∷ []) (λ x. x)
operand_row level.Or = reads (rule (AtLevel level.And) ∷ []) (λ x. x)
operand_row level.And = reads (rule (AtLevel level.BitOr) ∷ []) (λ x. x)
operand_row level.BitOr = reads (rule (AtLevel level.BitXor) ∷ []) (λ x. x)
operand_row level.BitXor = reads (rule (AtLevel level.BitAnd) ∷ []) (λ x. x)
operand_row level.BitAnd = reads (rule (AtLevel level.Equality) ∷ []) (λ x. x)
operand_row level.Equality = reads (rule (AtLevel level.Relation) ∷ []) (λ x. x)
operand_row level.Relation = reads (rule (AtLevel level.Sum) ∷ []) (λ x. x)
operand_row level.Sum = reads (rule (AtLevel level.Product) ∷ []) (λ x. x)
operand_row level.Product = reads (rule Unary ∷ []) (λ x. x)

-- an operator of this level, and the operand behind it
abbrev pub further_row : (l : Level) → Option BinaryOperator → Option (Row (rule (Further l)))
further_row l None = None
further_row l (Some o) = reads (one Decided ∷ rule (Tighter l) ∷ []) (λ _ x. roll-Operand (record { operator = o; operand = x }))

abbrev pub assigned_row : Option AssignOperator → Option (Row (rule Assigned))
assigned_row None = None
assigned_row (Some o) = reads (one Decided ∷ rule Expression ∷ []) (λ _ value. (o, value))

-- a unary: an operator and a unary, a cast and a unary, or an operand with its tests and what `**` stands before
abbrev pub unary_rows : Option UnaryRow → Option (Row (rule Unary))
unary_rows (Some (unary.Prefix o)) = nests (one Decided ∷ rule Unary ∷ []) (λ t x. e.Prefix t.at o x)
unary_rows (Some (unary.Cast to)) =
    nests (one Decided ∷ one Decided ∷ the_mark mark.CloseParen ∷ rule Unary ∷ []) (λ t _ _ x. e.Cast t.at to x)
unary_rows None = reads (here ∷ rule Tested ∷ optional (rule Power) ∷ []) power

-- a unary behind `**`, as the list of its operands
abbrev pub powers_rows : Option UnaryRow → Option (Row (rule Powers))
powers_rows (Some r) = reads (rule Unary ∷ []) (λ x. x ∷ [])
powers_rows None = reads (rule Tested ∷ optional (rule Power) ∷ []) (λ x others. x ∷ or_empty others)

abbrev pub test_row : Option TestOperator → Option (Row (rule Test))
test_row None = None
test_row (Some o) = reads (one Decided ∷ rule Type_ ∷ []) (λ _ t. record { operator = o; tested = t })

abbrev pub suffix_rows : Option SuffixRow → Option (Row (rule Suffix))
suffix_rows None = None
suffix_rows (Some suffix.Index) =
    reads (one Decided ∷ optional (rule Expression) ∷ the_mark mark.CloseBracket ∷ []) (λ _ index _. s.Index index)
suffix_rows (Some suffix.Member) =
    reads (one Decided ∷ one Word ∷ optional (rule Arguments) ∷ []) (λ _ word arguments. s.Member false word.name arguments)
suffix_rows (Some suffix.NullMember) =
    reads (one Decided ∷ one Word ∷ optional (rule Arguments) ∷ []) (λ _ word arguments. s.Member true word.name arguments)
suffix_rows (Some suffix.Increment) = reads (one Decided ∷ []) (λ _. s.Increment)
suffix_rows (Some suffix.Decrement) = reads (one Decided ∷ []) (λ _. s.Decrement)

abbrev pub reference_of : ClassWord → ClassReference
reference_of class.Self_ = reference.Self_
reference_of class.Static = reference.Static
reference_of class.Parent = reference.Parent

abbrev pub primary_rows : Option PrimaryRow → Option (Row (rule Primary))
primary_rows None = None
primary_rows (Some primary.Bracket) =
    reads (one Decided ∷ rule Expression ∷ the_mark mark.CloseParen ∷ []) (λ t inner _. e.Bracketed t.at inner)
primary_rows (Some primary.Int) = reads (one Decided ∷ []) (λ t. e.Literal t.at literal.Int)
primary_rows (Some primary.Float) = reads (one Decided ∷ []) (λ t. e.Literal t.at literal.Float)
primary_rows (Some primary.Text) = reads (one Decided ∷ []) (λ t. e.Literal t.at literal.Text)
primary_rows (Some primary.KeyText) = reads (one Decided ∷ []) (λ t. e.Literal t.at (literal.KeyText t.name))
primary_rows (Some primary.True) = reads (one Decided ∷ []) (λ t. e.Literal t.at literal.True)
primary_rows (Some primary.False) = reads (one Decided ∷ []) (λ t. e.Literal t.at literal.False)
primary_rows (Some primary.Null) = reads (one Decided ∷ []) (λ t. e.Literal t.at literal.Null)
primary_rows (Some primary.Variable) = reads (one Decided ∷ []) (λ t. e.Variable t.at t.name)
primary_rows (Some primary.This) = reads (one Decided ∷ []) (λ t. e.This t.at)
primary_rows (Some primary.Name) = reads (one Decided ∷ rule BehindName ∷ []) (λ name whole. whole name)
primary_rows (Some (primary.ClassWord w)) =
    reads (one Decided ∷ the_mark mark.ColonColon ∷ rule ScopedMember ∷ []) (λ t _ member. e.Scoped t.at (reference_of w) member)
primary_rows (Some primary.New) =
    reads (one Decided ∷ rule NewClass ∷ rule Arguments ∷ []) (λ t c arguments. e.New t.at c.0 c.1 c.2 arguments)
primary_rows (Some (primary.Container c)) =
    reads (one Decided ∷ the_mark mark.OpenBracket ∷ list (rule Expression) ∷ the_mark mark.CloseBracket ∷ [])
    (λ t _ elements _. e.Container t.at c elements)
primary_rows (Some primary.Dict) =
    reads (one Decided ∷ the_mark mark.OpenBracket ∷ list (rule Entry) ∷ the_mark mark.CloseBracket ∷ [])
    (λ t _ entries _. e.Dict t.at entries)
primary_rows (Some primary.Shape) =
    reads (one Decided ∷ the_mark mark.OpenParen ∷ list (rule FieldValue) ∷ the_mark mark.CloseParen ∷ [])
    (λ t _ fields _. e.Shape t.at fields)

abbrev pub call : List Expr → Lexeme → Expr
call arguments name = e.Call name.at name.name arguments

-- behind a name: arguments, `::` and a member, or nothing, which makes it a constant
abbrev pub behind_name_row : List Lexeme → Option (Row (rule BehindName))
behind_name_row ts =
    if sees (Mark_ mark.OpenParen) ts then reads (rule Arguments ∷ []) call
    else (if sees (Mark_ mark.ColonColon) ts then reads (one Decided ∷ rule ScopedMember ∷ []) (λ _ member name. e.Scoped name.at (reference.Named name.name) member)
    else reads [] (λ name. e.Constant name.at name.name))

abbrev pub scoped_member_row : List Lexeme → Option (Row (rule ScopedMember))
scoped_member_row ts =
    if sees Variable ts then reads (one Decided ∷ []) (λ t. scoped.Property t.name)
    else (if sees Word ts then reads (one Decided ∷ optional (rule Arguments) ∷ []) (λ word arguments. scoped.Word word.name arguments)
    else None)

abbrev pub new_class : Lexeme → ClassReference → Option (List WrittenType) → Place × ClassReference × List WrittenType
new_class t class arguments = (t.at, class, or_empty arguments)

abbrev pub new_class_of_word : Option ClassWord → Option (Row (rule NewClass))
new_class_of_word None = None
new_class_of_word (Some w) = reads (one Decided ∷ []) (λ t. new_class t (reference_of w) None)

abbrev pub new_class_row : Option TokenKind → Option (Row (rule NewClass))
new_class_row (Some kind.Name) = reads (one Decided ∷ optional (rule TypeArguments) ∷ []) (λ t arguments. new_class t (reference.Named t.name) arguments)
new_class_row (Some (kind.Keyword k)) = new_class_of_word (class_word k)
new_class_row (Some _) = None
new_class_row None = None

-- ---- statements

abbrev pub the_keyword : Keyword → Symbol
the_keyword k = one (Keyword_ k)

-- a name where it is declared
abbrev pub declared_name : Lexeme → DeclaredName
declared_name t = record { at = t.at; name = t.name }

abbrev pub statement_rows : Option StatementRow → Option (Row (rule Statement))
statement_rows None = None
statement_rows (Some statement.Block) = nests (here ∷ rule Block ∷ []) (λ at body. stmt.Block at body)
statement_rows (Some statement.Empty) = nests (one Decided ∷ []) (λ t. stmt.Empty t.at)
statement_rows (Some statement.If) =
    nests (one Decided ∷ the_mark mark.OpenParen ∷ rule Expression ∷ the_mark mark.CloseParen ∷ rule Statement ∷ optional (rule Else) ∷ [])
    (λ t _ condition _ body otherwise. stmt.If t.at condition body otherwise)
statement_rows (Some statement.While) =
    nests (one Decided ∷ the_mark mark.OpenParen ∷ rule Expression ∷ the_mark mark.CloseParen ∷ rule Statement ∷ [])
    (λ t _ condition _ body. stmt.While t.at condition body)
statement_rows (Some statement.DoWhile) =
    nests (one Decided ∷ rule Statement ∷ the_keyword keyword.While ∷ the_mark mark.OpenParen ∷ rule Expression ∷ the_mark mark.CloseParen ∷ the_mark mark.Semicolon ∷ [])
    (λ t body _ _ condition _ _. stmt.DoWhile t.at body condition)
statement_rows (Some statement.For) =
    nests (one Decided ∷ the_mark mark.OpenParen ∷ list (rule Expression) ∷ the_mark mark.Semicolon ∷ optional (rule Expression) ∷ the_mark mark.Semicolon ∷ list (rule Expression) ∷ the_mark mark.CloseParen ∷ rule Statement ∷ [])
    (λ t _ first _ condition _ step _ body. stmt.For t.at first condition step body)
statement_rows (Some statement.Foreach) =
    nests (one Decided ∷ the_mark mark.OpenParen ∷ rule Postfix ∷ the_keyword keyword.As ∷ rule Variables ∷ the_mark mark.CloseParen ∷ rule Statement ∷ [])
    (λ t _ subject _ variables _ body. stmt.Foreach t.at subject variables.0 variables.1 body)
statement_rows (Some statement.Switch) =
    nests (one Decided ∷ the_mark mark.OpenParen ∷ rule Expression ∷ the_mark mark.CloseParen ∷ the_mark mark.OpenBrace ∷ many (rule Case) ∷ the_mark mark.CloseBrace ∷ [])
    (λ t _ subject _ _ cases _. stmt.Switch t.at subject cases)
statement_rows (Some statement.Return) =
    nests (one Decided ∷ optional (rule Expression) ∷ the_mark mark.Semicolon ∷ []) (λ t value _. stmt.Return t.at value)
statement_rows (Some statement.Throw) =
    nests (one Decided ∷ rule Expression ∷ the_mark mark.Semicolon ∷ []) (λ t value _. stmt.Throw t.at value)
statement_rows (Some statement.Break) = nests (one Decided ∷ the_mark mark.Semicolon ∷ []) (λ t _. stmt.Break t.at)
statement_rows (Some statement.Continue) = nests (one Decided ∷ the_mark mark.Semicolon ∷ []) (λ t _. stmt.Continue t.at)
statement_rows (Some statement.Echo) =
    nests (one Decided ∷ list1 (rule Expression) ∷ the_mark mark.Semicolon ∷ []) (λ t values _. stmt.Echo t.at values)
statement_rows (Some statement.Try) =
    nests (one Decided ∷ rule Block ∷ many (rule Catch) ∷ optional (rule Finally) ∷ []) (λ t body catches last. stmt.Try t.at body catches last)
statement_rows (Some statement.Expression) =
    nests (here ∷ rule Expression ∷ the_mark mark.Semicolon ∷ []) (λ at expression _. stmt.Expression at expression)

abbrev pub variables : Lexeme → Option DeclaredName → Option DeclaredName × DeclaredName
variables first None = (None, declared_name first)
variables first (Some second) = (Some (declared_name first), second)

abbrev pub case_row : List Lexeme → Option (Row (rule Case))
case_row ts =
    if sees (Keyword_ keyword.Case) ts
    then reads (one Decided ∷ rule Expression ∷ the_mark mark.Colon ∷ many (rule Statement) ∷ []) (λ t value _ body. roll-Case (record { at = t.at; value = Some value; body = body }))
    else (if sees (Keyword_ keyword.Default) ts
    then reads (one Decided ∷ the_mark mark.Colon ∷ many (rule Statement) ∷ []) (λ t _ body. roll-Case (record { at = t.at; value = None; body = body }))
    else None)

-- ---- declarations

abbrev pub declared : Lexeme → Option (List AttributeTree) → (List AttributeTree → UnitTree) → ℕ → Declared
declared first attributes tree behind = record { first = first; tree = tree (or_empty attributes); behind = behind }

abbrev pub callable : Option (List TypeParameterTree) → List ParameterTree → Option WrittenType → DeclaredName → Callable
callable types parameters result name = record { name = name; type_parameters = or_empty types; parameters = parameters; result = result }

abbrev pub function_unit : Lexeme → (DeclaredName → Callable) → List Stmt → List AttributeTree → UnitTree
function_unit name signature body attributes = unit.Function attributes (signature (declared_name name)) body

abbrev pub declaration_rows : Option DeclarationRow → Option (Row (rule Declared_))
declaration_rows None = None
declaration_rows (Some declaration.Function) =
    reads (one Decided ∷ one Name ∷ rule Signature ∷ rule Block ∷ []) (λ _ name signature body. function_unit name signature body)
declaration_rows (Some declaration.Class) =
    reads (many (rule ClassModifier) ∷ the_keyword keyword.Class ∷ one Name ∷ optional (rule TypeParameters) ∷ optional (rule Extends) ∷ optional (rule Implements) ∷ the_mark mark.OpenBrace ∷ many (rule Member) ∷ the_mark mark.CloseBrace ∷ [])
    (λ modifiers _ name types extends implements _ members _ attributes. unit.Class attributes modifiers (declared_name name) (or_empty types) extends (or_empty implements) members)
declaration_rows (Some declaration.Interface) =
    reads (one Decided ∷ one Name ∷ optional (rule TypeParameters) ∷ optional (rule ExtendsAll) ∷ the_mark mark.OpenBrace ∷ many (rule InterfaceMember) ∷ the_mark mark.CloseBrace ∷ [])
    (λ _ name types extends _ members _ attributes. unit.Interface attributes (declared_name name) (or_empty types) (or_empty extends) members)
declaration_rows (Some declaration.Trait) =
    reads (one Decided ∷ one Name ∷ optional (rule TypeParameters) ∷ optional (rule Implements) ∷ the_mark mark.OpenBrace ∷ many (rule Member) ∷ the_mark mark.CloseBrace ∷ [])
    (λ _ name types implements _ members _ attributes. unit.Trait attributes (declared_name name) (or_empty types) (or_empty implements) members)
declaration_rows (Some declaration.Enum) =
    reads (one Decided ∷ one Name ∷ the_mark mark.Colon ∷ rule Type_ ∷ optional (rule EnumBound) ∷ the_mark mark.OpenBrace ∷ many (rule EnumCase) ∷ the_mark mark.CloseBrace ∷ [])
    (λ _ name _ base bound _ cases _ attributes. unit.Enum attributes (declared_name name) base bound cases)
declaration_rows (Some declaration.Alias) =
    reads (one Decided ∷ one Name ∷ optional (rule TypeParameters) ∷ the_mark mark.Assign ∷ rule Type_ ∷ the_mark mark.Semicolon ∷ [])
    (λ _ name types _ aliased _ attributes. unit.Alias attributes (declared_name name) (or_empty types) aliased)
declaration_rows (Some declaration.Constant) =
    reads (one Decided ∷ rule Type_ ∷ one Name ∷ rule Default ∷ the_mark mark.Semicolon ∷ [])
    (λ _ written name value _ attributes. unit.Constant attributes written (declared_name name) value)

abbrev pub visibility_row : Option VisibilityTree → Option (Row (rule Visibility))
visibility_row None = None
visibility_row (Some v) = reads (one Decided ∷ []) (λ _. v)

abbrev pub modifier_row : Option ModifierTree → Option (Row (rule Modifier))
modifier_row None = None
modifier_row (Some m) = reads (one Decided ∷ []) (λ _. m)

abbrev pub class_modifier_row : Option ClassModifierTree → Option (Row (rule ClassModifier))
class_modifier_row None = None
class_modifier_row (Some m) = reads (one Decided ∷ []) (λ _. m)

abbrev pub variance_row : Option VarianceTree → Option (Row (rule Variance))
variance_row None = None
variance_row (Some v) = reads (one Decided ∷ []) (λ _. v)

abbrev pub bound_row : Option BoundKind → Option (Row (rule Bound))
bound_row None = None
bound_row (Some k) = reads (one Decided ∷ rule Type_ ∷ []) (λ _ t. record { kind = k; written = t })

-- a constant behind its attributes and modifiers, and so on
abbrev pub constant_member : Lexeme → WrittenType → Lexeme → Option Expr → Lexeme → Place → List AttributeTree → List ModifierTree → MemberTree
constant_member _ written name value _ at attributes modifiers = member.Constant at attributes modifiers written (declared_name name) value

abbrev pub method_member : Lexeme → Lexeme → (DeclaredName → Callable) → Option (List Stmt) → Place → List AttributeTree → List ModifierTree → MemberTree
method_member _ name signature body at attributes modifiers = member.Method at attributes modifiers (signature (declared_name name)) body

abbrev pub property_member : WrittenType → Lexeme → Option Expr → Lexeme → Place → List AttributeTree → List ModifierTree → MemberTree
property_member written name value _ at attributes modifiers = member.Property at attributes modifiers written (declared_name name) value

abbrev pub member_rows : Option MemberRow → Option (Row (rule MemberBody))
member_rows None = None
member_rows (Some member_kind.Constant) =
    reads (one Decided ∷ rule Type_ ∷ one Name ∷ optional (rule Default) ∷ the_mark mark.Semicolon ∷ []) constant_member
member_rows (Some member_kind.Method) = reads (one Decided ∷ one Word ∷ rule Signature ∷ rule MethodBody ∷ []) method_member
member_rows (Some member_kind.Property) = reads (rule Type_ ∷ one Variable ∷ optional (rule Default) ∷ the_mark mark.Semicolon ∷ []) property_member

-- an interface has no properties
abbrev pub interface_rows : Option MemberRow → Option (Row (rule InterfaceBody))
interface_rows (Some member_kind.Constant) =
    reads (one Decided ∷ rule Type_ ∷ one Name ∷ optional (rule Default) ∷ the_mark mark.Semicolon ∷ []) constant_member
interface_rows (Some member_kind.Method) = reads (one Decided ∷ one Word ∷ rule Signature ∷ rule MethodBody ∷ []) method_member
interface_rows (Some member_kind.Property) = None
interface_rows None = None

abbrev pub member_of : Place → Option (List AttributeTree) → List ModifierTree → (Place → List AttributeTree → List ModifierTree → MemberTree) → MemberTree
member_of at attributes modifiers body = body at (or_empty attributes) modifiers

abbrev pub member_row_at : List Lexeme → Option (Row (rule Member))
member_row_at ts =
    if sees (Keyword_ keyword.Use) ts
    then reads (one Decided ∷ list1 (rule ClassType_) ∷ the_mark mark.Semicolon ∷ []) (λ t traits _. member.Use t.at traits)
    else reads (here ∷ optional (rule Attributes) ∷ many (rule Modifier) ∷ rule MemberBody ∷ []) member_of

abbrev pub method_body_row : List Lexeme → Option (Row (rule MethodBody))
method_body_row ts =
    if sees (Mark_ mark.OpenBrace) ts then reads (rule Block ∷ []) (λ body. Some body)
    else at_terminal (Mark_ mark.Semicolon) ts (reads (one Decided ∷ []) (λ _. None))

abbrev pub type_parameter : Option VarianceTree → Lexeme → List (Of (rule Bound)) → TypeParameterTree
type_parameter variance name bounds = record { variance = variance; name = declared_name name; bounds = bounds }

abbrev pub parameter : Option (List AttributeTree) → Option VisibilityTree → WrittenType → Lexeme → Option Expr → ParameterTree
parameter attributes visibility written name default =
    record { attributes = or_empty attributes; visibility = visibility; written = written; name = declared_name name; default = default }

-- ---- the table

abbrev pub row_of : (name : Rule) → List Lexeme → Option (Row (rule name))
row_of Type_ ts = type_rows (type_row (next_kind ts))
row_of ClassType_ ts = reads (one Name ∷ optional (rule TypeArguments) ∷ []) class_type
row_of TypeArguments ts =
    at_terminal (Mark_ mark.Less) ts (reads (one Decided ∷ list1 (rule Type_) ∷ the_mark mark.Greater ∷ []) (λ _ types _. types))
row_of Fields ts = fields_row ts
row_of MoreFields ts = more_fields_row ts
row_of Field ts =
    reads (optional (the_mark mark.Question) ∷ one KeyText ∷ the_mark mark.FatArrow ∷ rule Type_ ∷ []) (λ mark key _ value. field_type mark key value)
row_of Expression ts = nests (here ∷ rule Conditional ∷ optional (rule Assigned) ∷ []) assigned
row_of Assigned ts = assigned_row (assign_operator (next_kind ts))
row_of Conditional ts = reads (here ∷ rule (AtLevel level.Coalesce) ∷ optional (rule Branches) ∷ []) conditional
row_of Branches ts =
    at_terminal (Mark_ mark.Question) ts
    (reads (one Decided ∷ optional (rule Expression) ∷ the_mark mark.Colon ∷ rule (AtLevel level.Coalesce) ∷ []) (λ _ middle _ other. (middle, other)))
row_of (AtLevel l) ts = reads (here ∷ rule (Tighter l) ∷ many (rule (Further l)) ∷ []) chain
row_of (Tighter l) ts = operand_row l
row_of (Further l) ts = further_row l (operator l (next_kind ts))
row_of Unary ts = unary_rows (unary_row (next_kind ts) (second_kind ts))
row_of Power ts = at_terminal (Mark_ mark.Power) ts (reads (one Decided ∷ rule Powers ∷ []) (λ _ operands. operands))
row_of Powers ts = powers_rows (unary_row (next_kind ts) (second_kind ts))
row_of Tested ts = reads (here ∷ rule Postfix ∷ many (rule Test) ∷ []) tested
row_of Test ts = test_row (test_operator (next_kind ts))
row_of Postfix ts = reads (here ∷ rule Primary ∷ many (rule Suffix) ∷ []) postfix
row_of Suffix ts = suffix_rows (suffix_row (next_kind ts))
row_of Primary ts = primary_rows (primary_row (next_kind ts))
row_of BehindName ts = behind_name_row ts
row_of ScopedMember ts = scoped_member_row ts
row_of Arguments ts =
    at_terminal (Mark_ mark.OpenParen) ts (reads (one Decided ∷ list (rule Expression) ∷ the_mark mark.CloseParen ∷ []) (λ _ arguments _. arguments))
row_of NewClass ts = new_class_row (next_kind ts)
row_of Entry ts = reads (rule Expression ∷ the_mark mark.FatArrow ∷ rule Expression ∷ []) (λ key _ value. roll-Entry (record { key = key; value = value }))
row_of FieldValue ts =
    reads (one KeyText ∷ the_mark mark.FatArrow ∷ rule Expression ∷ []) (λ key _ value. roll-FieldValue (record { key_at = key.at; key = key.name; value = value }))
row_of Statement ts = statement_rows (statement_row (next_kind ts) (second_kind ts))
row_of Block ts =
    at_terminal (Mark_ mark.OpenBrace) ts (reads (one Decided ∷ many (rule Statement) ∷ the_mark mark.CloseBrace ∷ []) (λ _ body _. body))
row_of Else ts = at_terminal (Keyword_ keyword.Else) ts (reads (one Decided ∷ rule Statement ∷ []) (λ _ body. body))
row_of Variables ts = reads (one Variable ∷ optional (rule SecondVariable) ∷ []) variables
row_of SecondVariable ts = at_terminal (Mark_ mark.FatArrow) ts (reads (one Decided ∷ one Variable ∷ []) (λ _ t. declared_name t))
row_of Case ts = case_row ts
row_of Catch ts =
    at_terminal (Keyword_ keyword.Catch) ts
    (reads (one Decided ∷ the_mark mark.OpenParen ∷ rule ClassType_ ∷ one Variable ∷ the_mark mark.CloseParen ∷ rule Block ∷ [])
    (λ _ _ class t _ body. roll-Catch (record { class = class; variable = declared_name t; body = body })))
row_of Finally ts = at_terminal (Keyword_ keyword.Finally) ts (reads (one Decided ∷ rule Block ∷ []) (λ _ body. body))
row_of File ts = reads (many (rule Declaration) ∷ []) (λ declarations. declarations)
row_of Declaration ts = reads (start ∷ optional (rule Attributes) ∷ rule Declared_ ∷ finish ∷ []) declared
row_of Declared_ ts = declaration_rows (declaration_row (next_kind ts))
row_of Attributes ts =
    at_terminal (Mark_ mark.OpenAttributes) ts
    (reads (one Decided ∷ list1 (rule Attribute) ∷ the_mark mark.Greater ∷ the_mark mark.Greater ∷ []) (λ _ attributes _ _. attributes))
row_of Attribute ts =
    reads (one Name ∷ optional (rule Arguments) ∷ []) (λ name arguments. record { name = declared_name name; arguments = or_empty arguments })
row_of TypeParameters ts =
    at_terminal (Mark_ mark.Less) ts (reads (one Decided ∷ list1 (rule TypeParameter) ∷ the_mark mark.Greater ∷ []) (λ _ parameters _. parameters))
row_of TypeParameter ts = reads (optional (rule Variance) ∷ one Name ∷ many (rule Bound) ∷ []) type_parameter
row_of Variance ts = variance_row (variance (next_kind ts))
row_of Bound ts = bound_row (bound_kind (next_kind ts))
row_of Signature ts = reads (optional (rule TypeParameters) ∷ rule Parameters ∷ optional (rule Result_) ∷ []) callable
row_of Parameters ts =
    at_terminal (Mark_ mark.OpenParen) ts (reads (one Decided ∷ list (rule Parameter) ∷ the_mark mark.CloseParen ∷ []) (λ _ parameters _. parameters))
row_of Parameter ts =
    reads (optional (rule Attributes) ∷ optional (rule Visibility) ∷ rule Type_ ∷ one Variable ∷ optional (rule Default) ∷ []) parameter
row_of Visibility ts = visibility_row (visibility (next_kind ts))
row_of Default ts = at_terminal (Mark_ mark.Assign) ts (reads (one Decided ∷ rule Expression ∷ []) (λ _ value. value))
row_of Result_ ts = at_terminal (Mark_ mark.Colon) ts (reads (one Decided ∷ rule Type_ ∷ []) (λ _ t. t))
row_of ClassModifier ts = class_modifier_row (class_modifier (next_kind ts))
row_of Extends ts = at_terminal (Keyword_ keyword.Extends) ts (reads (one Decided ∷ rule ClassType_ ∷ []) (λ _ t. t))
row_of ExtendsAll ts = at_terminal (Keyword_ keyword.Extends) ts (reads (one Decided ∷ list1 (rule ClassType_) ∷ []) (λ _ types. types))
row_of Implements ts = at_terminal (Keyword_ keyword.Implements) ts (reads (one Decided ∷ list1 (rule ClassType_) ∷ []) (λ _ types. types))
row_of EnumBound ts = at_terminal (Keyword_ keyword.As) ts (reads (one Decided ∷ rule Type_ ∷ []) (λ _ t. t))
row_of EnumCase ts =
    reads (one Name ∷ the_mark mark.Assign ∷ rule Expression ∷ the_mark mark.Semicolon ∷ []) (λ name _ value _. record { name = declared_name name; value = value })
row_of Member ts = member_row_at ts
row_of InterfaceMember ts = reads (here ∷ optional (rule Attributes) ∷ many (rule Modifier) ∷ rule InterfaceBody ∷ []) member_of
row_of MemberBody ts = member_rows (member_row (next_kind ts))
row_of InterfaceBody ts = interface_rows (member_row (next_kind ts))
row_of Modifier ts = modifier_row (modifier (next_kind ts))
row_of MethodBody ts = method_body_row ts

-- an expression begins with an operator, a cast or an operand
abbrev pub begins_expression : List Lexeme → Bool
begins_expression ts = is_there (unary_row (next_kind ts) (second_kind ts)) || is_there (primary_row (next_kind ts))

abbrev pub begins_attributes : List Lexeme → Bool
begins_attributes ts = sees (Mark_ mark.OpenAttributes) ts

abbrev pub begins_declaration : List Lexeme → Bool
begins_declaration ts = begins_attributes ts || is_there (declaration_row (next_kind ts))

abbrev pub begins_type_parameter : List Lexeme → Bool
begins_type_parameter ts = is_there (variance (next_kind ts)) || sees Name ts

abbrev pub begins_parameter : List Lexeme → Bool
begins_parameter ts = begins_attributes ts || is_there (visibility (next_kind ts)) || is_there (type_row (next_kind ts))

abbrev pub begins_member : List Lexeme → Bool
begins_member ts =
    sees (Keyword_ keyword.Use) ts || begins_attributes ts || is_there (modifier (next_kind ts)) || is_there (member_row (next_kind ts))

abbrev pub begins_interface_member : List Lexeme → Bool
begins_interface_member ts =
    begins_attributes ts || is_there (modifier (next_kind ts)) || sees (Keyword_ keyword.Const) ts || sees (Keyword_ keyword.Function) ts

-- the next token begins what this name of the grammar stands for
abbrev pub begins_rule : Rule → List Lexeme → Bool
begins_rule ClassType_ ts = sees Name ts
begins_rule Fields ts = sees (Mark_ mark.Ellipsis) ts || begins_field ts
begins_rule MoreFields ts = sees (Mark_ mark.Comma) ts
begins_rule Field ts = begins_field ts
begins_rule Expression ts = begins_expression ts
begins_rule Conditional ts = begins_expression ts
begins_rule (AtLevel l) ts = begins_expression ts
begins_rule (Tighter l) ts = begins_expression ts
begins_rule Unary ts = begins_expression ts
begins_rule Powers ts = begins_expression ts
begins_rule Tested ts = is_there (primary_row (next_kind ts))
begins_rule Postfix ts = is_there (primary_row (next_kind ts))
begins_rule BehindName ts = sees (Mark_ mark.OpenParen) ts || sees (Mark_ mark.ColonColon) ts
begins_rule Entry ts = begins_expression ts
begins_rule FieldValue ts = sees KeyText ts
begins_rule Variables ts = sees Variable ts
begins_rule File ts = begins_declaration ts
begins_rule Declaration ts = begins_declaration ts
begins_rule Attribute ts = sees Name ts
begins_rule TypeParameter ts = begins_type_parameter ts
begins_rule Signature ts = sees (Mark_ mark.Less) ts || sees (Mark_ mark.OpenParen) ts
begins_rule Parameter ts = begins_parameter ts
begins_rule EnumCase ts = sees Name ts
begins_rule Member ts = begins_member ts
begins_rule InterfaceMember ts = begins_interface_member ts
-- a row of the others is there only where the next token begins it
begins_rule name ts = is_there (row_of name ts)

-- the next token begins this symbol
abbrev pub begins : Symbol → List Lexeme → Bool
begins (one terminal) ts = sees terminal ts
begins (rule name) ts = begins_rule name ts
begins _ ts = false

-- the row of a symbol that the next token decides
abbrev pub row : (x : Symbol) → List Lexeme → Option (Row x)
row (one terminal) ts = None
row here ts = None
row close ts = None
row start ts = None
row finish ts = None
row (optional x) ts = if begins x ts then reads (x ∷ []) (λ v. Some v) else reads [] None
row (many x) ts = if begins x ts then reads (x ∷ many x ∷ []) (λ v vs. v ∷ vs) else reads [] []
row (list x) ts = if begins x ts then reads (x ∷ more x ∷ []) (λ v vs. v ∷ vs) else reads [] []
row (list1 x) ts = reads (x ∷ more x ∷ []) (λ v vs. v ∷ vs)
row (more x) ts = if sees (Mark_ mark.Comma) ts then reads (one Decided ∷ list x ∷ []) (λ _ vs. vs) else reads [] []
row (rule name) ts = row_of name ts
