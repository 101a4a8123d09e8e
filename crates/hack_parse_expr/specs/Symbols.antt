-- The symbols of the grammar, and what each stands for (docs/language.md, Grammar).
use Rattle.std.specs.Prelude.{ℕ, Bool, List, [], ◌∷◌, Option}
use Rattle.hack_types.specs.declared.place.Place.{Place}
use Rattle.hack_lexer.specs.declared.kind.Mark.{Mark}
use Rattle.hack_lexer.specs.declared.kind.Keyword.{Keyword}
use Rattle.hack_tree.specs.declared.written_type.WrittenType.{WrittenType}
use Rattle.hack_tree.specs.declared.written_type.ClassType.{ClassType}
use Rattle.hack_tree.specs.declared.written_type.FieldType.{FieldType}
use Rattle.hack_tree.specs.declared.expression.AssignOperator.{AssignOperator}
use Rattle.hack_tree.specs.declared.expression.ClassReference.{ClassReference}
use Rattle.hack_tree.specs.declared.expression.Expr.{Expr}
use Rattle.hack_tree.specs.declared.expression.Operand.{Operand}
use Rattle.hack_tree.specs.declared.expression.TypeTest.{TypeTest}
use Rattle.hack_tree.specs.declared.expression.Suffix.{Suffix as SuffixTree}
use Rattle.hack_tree.specs.declared.expression.ScopedMember.{ScopedMember as ScopedMemberTree}
use Rattle.hack_tree.specs.declared.expression.Entry.{Entry as EntryTree}
use Rattle.hack_tree.specs.declared.expression.FieldValue.{FieldValue as FieldValueTree}
use Rattle.hack_tree.specs.declared.statement.Stmt.{Stmt}
use Rattle.hack_tree.specs.declared.statement.Case.{Case as CaseTree}
use Rattle.hack_tree.specs.declared.statement.Catch.{Catch as CatchTree}
use Rattle.hack_tree.specs.declared.declaration.Visibility.{Visibility as VisibilityTree}
use Rattle.hack_tree.specs.declared.declaration.Modifier.{Modifier as ModifierTree}
use Rattle.hack_tree.specs.declared.declaration.ClassModifier.{ClassModifier as ClassModifierTree}
use Rattle.hack_tree.specs.declared.declaration.Variance.{Variance as VarianceTree}
use Rattle.hack_tree.specs.declared.declaration.DeclaredName.{DeclaredName}
use Rattle.hack_tree.specs.declared.declaration.Attribute.{Attribute as AttributeTree}
use Rattle.hack_tree.specs.declared.declaration.Bound.{Bound as BoundTree}
use Rattle.hack_tree.specs.declared.declaration.TypeParameter.{TypeParameter as TypeParameterTree}
use Rattle.hack_tree.specs.declared.declaration.Parameter.{Parameter as ParameterTree}
use Rattle.hack_tree.specs.declared.declaration.Callable.{Callable}
use Rattle.hack_tree.specs.declared.declaration.Member.{Member as MemberTree}
use Rattle.hack_tree.specs.declared.declaration.EnumCase.{EnumCase as EnumCaseTree}
use Rattle.hack_tree.specs.declared.declaration.UnitTree.{UnitTree}
use Rattle.hack_parse_expr.specs.declared.lexeme.Lexeme.{Lexeme}
use Rattle.hack_parse_expr.specs.declared.rows.Level.{Level}

-- a token that a row names
pub data Terminal : Type 0 where
  -- this mark
  Mark_ : Mark → Terminal
  -- this keyword
  Keyword_ : Keyword → Terminal
  Name : Terminal
  Variable : Terminal
  -- a name or a keyword
  Word : Terminal
  KeyText : Terminal
  -- whatever token comes next: the one that decided the row
  Decided : Terminal

-- a name of the grammar
pub data Rule : Type 0 where
  -- types
  Type_ : Rule
  ClassType_ : Rule
  TypeArguments : Rule
  Fields : Rule
  MoreFields : Rule
  Field : Rule
  -- expressions
  Expression : Rule
  Assigned : Rule
  Conditional : Rule
  Branches : Rule
  -- operands with operators of one level between them, such an operand, and an operator with the operand behind it
  AtLevel : Level → Rule
  Tighter : Level → Rule
  Further : Level → Rule
  Unary : Rule
  -- `**` and what stands behind it, as the list of its operands
  Power : Rule
  Powers : Rule
  Tested : Rule
  Test : Rule
  Postfix : Rule
  Suffix : Rule
  Primary : Rule
  -- what stands behind a name that begins an operand
  BehindName : Rule
  ScopedMember : Rule
  Arguments : Rule
  NewClass : Rule
  Entry : Rule
  FieldValue : Rule
  -- statements
  Statement : Rule
  Block : Rule
  Else : Rule
  -- the variables of a `foreach`, and the one behind its `=>`
  Variables : Rule
  SecondVariable : Rule
  Case : Rule
  Catch : Rule
  Finally : Rule
  -- declarations
  File : Rule
  Declaration : Rule
  -- a declaration behind its attributes
  Declared_ : Rule
  Attributes : Rule
  Attribute : Rule
  TypeParameters : Rule
  TypeParameter : Rule
  Variance : Rule
  Bound : Rule
  -- what a function or a method says of itself behind its name
  Signature : Rule
  Parameters : Rule
  Parameter : Rule
  Visibility : Rule
  -- `=` and an expression
  Default : Rule
  -- `:` and a type
  Result_ : Rule
  ClassModifier : Rule
  -- `extends` and a type, `extends` and types, `implements` and types
  Extends : Rule
  ExtendsAll : Rule
  Implements : Rule
  EnumBound : Rule
  EnumCase : Rule
  Member : Rule
  InterfaceMember : Rule
  -- a member behind its attributes and modifiers
  MemberBody : Rule
  InterfaceBody : Rule
  Modifier : Rule
  MethodBody : Rule

pub data Symbol : Type 0 where
  -- a token
  one : Terminal → Symbol
  -- no token: where the next one stands
  here : Symbol
  -- no token: the end of a row that counts as nesting
  close : Symbol
  -- no token: a declaration begins at the next token, from which places count
  start : Symbol
  -- no token: the index of the byte behind the last token that was taken
  finish : Symbol
  -- [x]
  optional : Symbol → Symbol
  -- x*
  many : Symbol → Symbol
  -- L(x), L1(x), and what may follow an x in them
  list : Symbol → Symbol
  list1 : Symbol → Symbol
  more : Symbol → Symbol
  rule : Rule → Symbol

-- a declaration in a file: its first token, its tree, and the index of the byte behind its last token
pub record Declared : Type 0 where
  pub first : Lexeme
  pub tree : UnitTree
  pub behind : ℕ

-- what a name of the grammar stands for
abbrev pub Meaning : Rule → Type 0
Meaning Type_ = WrittenType
Meaning ClassType_ = ClassType
Meaning TypeArguments = List WrittenType
Meaning Fields = List FieldType × Bool
Meaning MoreFields = List FieldType × Bool
Meaning Field = FieldType
Meaning Expression = Expr
Meaning Assigned = AssignOperator × Expr
Meaning Conditional = Expr
Meaning Branches = Option Expr × Expr
Meaning (AtLevel level) = Expr
Meaning (Tighter level) = Expr
Meaning (Further level) = Operand
Meaning Unary = Expr
Meaning Power = List Expr
Meaning Powers = List Expr
Meaning Tested = Expr
Meaning Test = TypeTest
Meaning Postfix = Expr
Meaning Suffix = SuffixTree
Meaning Primary = Expr
Meaning BehindName = Lexeme → Expr
Meaning ScopedMember = ScopedMemberTree
Meaning Arguments = List Expr
Meaning NewClass = Place × ClassReference × List WrittenType
Meaning Entry = EntryTree
Meaning FieldValue = FieldValueTree
Meaning Statement = Stmt
Meaning Block = List Stmt
Meaning Else = Stmt
Meaning Variables = Option DeclaredName × DeclaredName
Meaning SecondVariable = DeclaredName
Meaning Case = CaseTree
Meaning Catch = CatchTree
Meaning Finally = List Stmt
Meaning File = List Declared
Meaning Declaration = Declared
Meaning Declared_ = List AttributeTree → UnitTree
Meaning Attributes = List AttributeTree
Meaning Attribute = AttributeTree
Meaning TypeParameters = List TypeParameterTree
Meaning TypeParameter = TypeParameterTree
Meaning Variance = VarianceTree
Meaning Bound = BoundTree
Meaning Signature = DeclaredName → Callable
Meaning Parameters = List ParameterTree
Meaning Parameter = ParameterTree
Meaning Visibility = VisibilityTree
Meaning Default = Expr
Meaning Result_ = WrittenType
Meaning ClassModifier = ClassModifierTree
Meaning Extends = ClassType
Meaning ExtendsAll = List ClassType
Meaning Implements = List ClassType
Meaning EnumBound = WrittenType
Meaning EnumCase = EnumCaseTree
Meaning Member = MemberTree
Meaning InterfaceMember = MemberTree
Meaning MemberBody = Place → List AttributeTree → List ModifierTree → MemberTree
Meaning InterfaceBody = Place → List AttributeTree → List ModifierTree → MemberTree
Meaning Modifier = ModifierTree
Meaning MethodBody = Option (List Stmt)

-- what a symbol stands for
abbrev pub Of : Symbol → Type 0
Of (one terminal) = Lexeme
Of here = Place
Of close = Unit {0}
Of start = Lexeme
Of finish = ℕ
Of (optional x) = Option (Of x)
Of (many x) = List (Of x)
Of (list x) = List (Of x)
Of (list1 x) = List (Of x)
Of (more x) = List (Of x)
Of (rule name) = Meaning name

-- what gives an R once each of these symbols stands for something
abbrev pub Awaits : List Symbol → Type 0 → Type 0
Awaits [] R = R
Awaits (x ∷ pending) R = Of x → Awaits pending R

-- a row of the grammar's table: its parts, what it makes of them, and whether it counts as nesting
pub record Row (x : Symbol) : Type 0 where
  pub counts : Bool
  pub parts : List Symbol
  pub makes : Awaits parts (Of x)
