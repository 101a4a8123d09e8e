-- The symbols that an expression names; in the types that it tests a type parameter of the scope names none (docs/language.md, Typing expressions).
use Rattle.std.specs.Prelude.{Option, Some, None, List, [], ◌∷◌, ◌++◌, All, IsTrue}
use Rattle.std.specs.List.{flat_map}
use Rattle.hack_tree.specs.declared.expression.ClassReference.{ClassReference}
use Rattle.hack_tree.specs.declared.expression.ClassReference.TheVariants as reference
use Rattle.hack_tree.specs.declared.expression.Expr.{Expr}
use Rattle.hack_tree.specs.declared.expression.Expr.TheOpen.{Expr-F, ScopedMember-F, Suffix-F, Entry-F, FieldValue-F, Operand-F}
use Rattle.hack_tree.specs.declared.expression.Expr.TheFolds.{fold-Expr, fold-ScopedMember, fold-Suffix, fold-Entry, fold-FieldValue, fold-Operand}
use Rattle.hack_tree.specs.declared.expression.Entry.{Entry}
use Rattle.hack_tree.specs.declared.expression.FieldValue.{FieldValue}
use Rattle.hack_tree.specs.declared.expression.Operand.{Operand}
use Rattle.hack_tree.specs.declared.expression.ScopedMember.{ScopedMember}
use Rattle.hack_tree.specs.declared.expression.Suffix.{Suffix}
use Rattle.hack_tree.specs.declared.expression.TypeTest.{TypeTest}
use Rattle.hack_types.specs.declared.ids.Kind.TheVariants.{Const, Func}
use Rattle.hack_types.specs.declared.ids.SymbolId.{SymbolId}
use Rattle.hack_shallow.specs.Scope.{Scope as Names}
use Rattle.hack_rules.specs.WrittenTypes.{names_of}
use Rattle.hack_decls.specs.DeclState.{Symbols}
use Rattle.hack_decls.specs.Names.{class_symbol}
use Rattle.hack_sub.specs.declared.scope.Scope.{Scope}
use Rattle.hack_written.specs.WrittenIn.{WrittenIn, symbols_of as written_symbols}

abbrev pub Mentioned : Type 0
Mentioned = List SymbolId

-- those of each of a list
abbrev pub of_all : List Mentioned → Mentioned
of_all = flat_map (λ symbols. symbols)

-- those of a part that may be missing
abbrev pub of_any : Option Mentioned → Mentioned
of_any None = []
of_any (Some symbols) = symbols

-- those of arguments that may be missing
abbrev pub of_arguments : Option (List Mentioned) → Mentioned
of_arguments None = []
of_arguments (Some arguments) = of_all arguments

-- what stands before `::` or behind `new`
abbrev pub of_reference : ClassReference → Mentioned
of_reference (reference.Named name) = class_symbol name ∷ []
of_reference _ = []

-- the type that is tested
abbrev pub of_test : Names → TypeTest → Mentioned
of_test names test = written_symbols names test.tested

-- one level of an expression, with the symbols of each part in its place
abbrev pub symbols_by : Names → Expr-F Mentioned Mentioned Mentioned Mentioned Mentioned Mentioned → Mentioned
symbols_by names (Expr-F.Assign at target operator value) = target ++ value
symbols_by names (Expr-F.Conditional at condition middle other) = condition ++ of_any middle ++ other
symbols_by names (Expr-F.Chain at first others) = first ++ of_all others
symbols_by names (Expr-F.Prefix at operator operand) = operand
symbols_by names (Expr-F.Cast at to operand) = operand
symbols_by names (Expr-F.Power at operands) = of_all operands
symbols_by names (Expr-F.Test at operand tests) = operand ++ flat_map (of_test names) tests
symbols_by names (Expr-F.Postfix at operand suffixes) = operand ++ of_all suffixes
symbols_by names (Expr-F.Bracketed at inner) = inner
symbols_by names (Expr-F.Literal at literal) = []
symbols_by names (Expr-F.Variable at name) = []
symbols_by names (Expr-F.This at) = []
symbols_by names (Expr-F.Constant at name) = record { kind = Const; name = name } ∷ []
symbols_by names (Expr-F.Call at name arguments) = record { kind = Func; name = name } ∷ of_all arguments
symbols_by names (Expr-F.Scoped at class member) = of_reference class ++ member
symbols_by names (Expr-F.New at class_at class types arguments) = of_reference class ++ flat_map (written_symbols names) types ++ of_all arguments
symbols_by names (Expr-F.Container at container elements) = of_all elements
symbols_by names (Expr-F.Dict at entries) = of_all entries
symbols_by names (Expr-F.Shape at fields) = of_all fields

-- what stands behind `::`
abbrev pub member_symbols_by : ScopedMember-F Mentioned Mentioned Mentioned Mentioned Mentioned Mentioned → Mentioned
member_symbols_by (ScopedMember-F.Property name) = []
member_symbols_by (ScopedMember-F.Word name arguments) = of_arguments arguments

-- what stands behind an operand
abbrev pub suffix_symbols_by : Suffix-F Mentioned Mentioned Mentioned Mentioned Mentioned Mentioned → Mentioned
suffix_symbols_by (Suffix-F.Index index) = of_any index
suffix_symbols_by (Suffix-F.Member null_safe name arguments) = of_arguments arguments
suffix_symbols_by Suffix-F.Increment = []
suffix_symbols_by Suffix-F.Decrement = []

-- an entry of a dict
abbrev pub entry_symbols_by : Entry-F Mentioned Mentioned Mentioned Mentioned Mentioned Mentioned → Mentioned
entry_symbols_by entry = entry.key ++ entry.value

-- a field of a shape
abbrev pub field_symbols_by : FieldValue-F Mentioned Mentioned Mentioned Mentioned Mentioned Mentioned → Mentioned
field_symbols_by field = field.value

-- an operand of a chain
abbrev pub operand_symbols_by : Operand-F Mentioned Mentioned Mentioned Mentioned Mentioned Mentioned → Mentioned
operand_symbols_by operand = operand.operand

abbrev pub symbols_of : Scope → Expr → Mentioned
symbols_of scope =
    fold-Expr Mentioned Mentioned Mentioned Mentioned Mentioned Mentioned (symbols_by (names_of scope)) member_symbols_by suffix_symbols_by entry_symbols_by field_symbols_by operand_symbols_by

abbrev pub member_symbols_of : Scope → ScopedMember → Mentioned
member_symbols_of scope =
    fold-ScopedMember Mentioned Mentioned Mentioned Mentioned Mentioned Mentioned (symbols_by (names_of scope)) member_symbols_by suffix_symbols_by entry_symbols_by field_symbols_by operand_symbols_by

abbrev pub suffix_symbols_of : Scope → Suffix → Mentioned
suffix_symbols_of scope =
    fold-Suffix Mentioned Mentioned Mentioned Mentioned Mentioned Mentioned (symbols_by (names_of scope)) member_symbols_by suffix_symbols_by entry_symbols_by field_symbols_by operand_symbols_by

abbrev pub entry_symbols_of : Scope → Entry → Mentioned
entry_symbols_of scope =
    fold-Entry Mentioned Mentioned Mentioned Mentioned Mentioned Mentioned (symbols_by (names_of scope)) member_symbols_by suffix_symbols_by entry_symbols_by field_symbols_by operand_symbols_by

abbrev pub field_symbols_of : Scope → FieldValue → Mentioned
field_symbols_of scope =
    fold-FieldValue Mentioned Mentioned Mentioned Mentioned Mentioned Mentioned (symbols_by (names_of scope)) member_symbols_by suffix_symbols_by entry_symbols_by field_symbols_by operand_symbols_by

abbrev pub operand_symbols_of : Scope → Operand → Mentioned
operand_symbols_of scope =
    fold-Operand Mentioned Mentioned Mentioned Mentioned Mentioned Mentioned (symbols_by (names_of scope)) member_symbols_by suffix_symbols_by entry_symbols_by field_symbols_by operand_symbols_by

-- all that an expression names is among these symbols
unfoldable pub ExprIn : Scope → Symbols → Expr → Type 0
ExprIn scope symbols e = All (λ s. IsTrue (symbols s)) (symbols_of scope e)

-- the same of what stands before `::` or behind `new`
abbrev pub ReferenceIn : Symbols → ClassReference → Type 0
ReferenceIn symbols class = All (λ s. IsTrue (symbols s)) (of_reference class)

-- the same of what stands behind `::`
unfoldable pub MemberIn : Scope → Symbols → ScopedMember → Type 0
MemberIn scope symbols member = All (λ s. IsTrue (symbols s)) (member_symbols_of scope member)

-- the same of what stands behind an operand
unfoldable pub SuffixIn : Scope → Symbols → Suffix → Type 0
SuffixIn scope symbols suffix = All (λ s. IsTrue (symbols s)) (suffix_symbols_of scope suffix)

-- the same of an entry of a dict
unfoldable pub EntryIn : Scope → Symbols → Entry → Type 0
EntryIn scope symbols entry = All (λ s. IsTrue (symbols s)) (entry_symbols_of scope entry)

-- the same of a field of a shape
unfoldable pub FieldIn : Scope → Symbols → FieldValue → Type 0
FieldIn scope symbols field = All (λ s. IsTrue (symbols s)) (field_symbols_of scope field)

-- the same of an operand of a chain
unfoldable pub OperandIn : Scope → Symbols → Operand → Type 0
OperandIn scope symbols operand = All (λ s. IsTrue (symbols s)) (operand_symbols_of scope operand)

-- the same of the type that is tested
abbrev pub TestIn : Scope → Symbols → TypeTest → Type 0
TestIn scope symbols test = WrittenIn (names_of scope) symbols test.tested
