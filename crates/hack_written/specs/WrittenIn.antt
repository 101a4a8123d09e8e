-- The symbols that a written type names (docs/language.md, Written types): one for each name in it that no type parameter has.
use Rattle.std.specs.Prelude.{ℕ, List, [], ◌∷◌, ◌++◌, All, IsTrue, if◌then◌else◌}
use Rattle.std.specs.List.{flat_map}
use Rattle.hack_tree.specs.declared.written_type.ClassType.{ClassType}
use Rattle.hack_tree.specs.declared.written_type.FieldType.{FieldType}
use Rattle.hack_tree.specs.declared.written_type.WrittenType.{WrittenType}
use Rattle.hack_tree.specs.declared.written_type.WrittenType.TheOpen.{WrittenType-F, ClassType-F, FieldType-F}
use Rattle.hack_tree.specs.declared.written_type.WrittenType.TheFolds.{fold-WrittenType, fold-ClassType, fold-FieldType}
use Rattle.hack_types.specs.declared.ids.SymbolId.{SymbolId}
use Rattle.hack_shallow.specs.Scope.{Scope as Names}
use Rattle.hack_decls.specs.DeclState.{Symbols}
use Rattle.hack_decls.specs.Names.{class_symbol}
use Rattle.hack_rules.specs.WrittenTypes.{is_parameter}

abbrev pub Mentioned : Type 0
Mentioned = List SymbolId

-- the symbol of a name, and none where a type parameter has the name, whatever is declared under it
abbrev pub name_symbols : Names → ℕ → Mentioned
name_symbols names name = if is_parameter names name then [] else class_symbol name ∷ []

-- one level of a written type, with the symbols of each part in its place
abbrev pub symbols_by : WrittenType-F Mentioned Mentioned Mentioned → Mentioned
symbols_by (WrittenType-F.Optional at inner) = inner
symbols_by (WrittenType-F.Primitive at primitive) = []
symbols_by (WrittenType-F.This at) = []
symbols_by (WrittenType-F.Container at container element) = element
symbols_by (WrittenType-F.Dict at key value) = key ++ value
symbols_by (WrittenType-F.Shape at fields rest) = flat_map (λ symbols. symbols) fields
symbols_by (WrittenType-F.Class class) = class

-- a name and its arguments, which are looked at behind a type parameter too
abbrev pub class_symbols_by : Names → ClassType-F Mentioned Mentioned Mentioned → Mentioned
class_symbols_by names class = name_symbols names class.name ++ flat_map (λ symbols. symbols) class.arguments

abbrev pub field_symbols_by : FieldType-F Mentioned Mentioned Mentioned → Mentioned
field_symbols_by field = field.value

abbrev pub symbols_of : Names → WrittenType → Mentioned
symbols_of names = fold-WrittenType Mentioned Mentioned Mentioned symbols_by (class_symbols_by names) field_symbols_by

abbrev pub class_symbols_of : Names → ClassType → Mentioned
class_symbols_of names = fold-ClassType Mentioned Mentioned Mentioned symbols_by (class_symbols_by names) field_symbols_by

abbrev pub field_symbols_of : Names → FieldType → Mentioned
field_symbols_of names = fold-FieldType Mentioned Mentioned Mentioned symbols_by (class_symbols_by names) field_symbols_by

-- what is declared under a name that is none of these type parameters is among these symbols
abbrev pub NameIn : Names → Symbols → ℕ → Type 0
NameIn names symbols name = All (λ s. IsTrue (symbols s)) (name_symbols names name)

-- all names that are mentioned in a written type, but those of these type parameters, are among these symbols
unfoldable pub WrittenIn : Names → Symbols → WrittenType → Type 0
WrittenIn names symbols ty = All (λ s. IsTrue (symbols s)) (symbols_of names ty)

-- the same of a name with its arguments
unfoldable pub ClassIn : Names → Symbols → ClassType → Type 0
ClassIn names symbols class = All (λ s. IsTrue (symbols s)) (class_symbols_of names class)

-- the same of a field
unfoldable pub FieldIn : Names → Symbols → FieldType → Type 0
FieldIn names symbols field = All (λ s. IsTrue (symbols s)) (field_symbols_of names field)
