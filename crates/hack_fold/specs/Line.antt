-- The line of a symbol: it, and then each parent in order with its own parents walked in the same way; a name that stands there
-- already is passed over, and 257 names end it (docs/language.md, Folding).
use Rattle.std.specs.Prelude.{ℕ, zero, suc, ◌==◌, ◌||◌, ◌&&◌, Bool, true, false, Option, Some, None, List, [], ◌∷◌, ◌++◌, length, nat_lt, if◌then◌else◌}
use Rattle.std.specs.List.{filter_map, list_any}
use Rattle.hack_types.specs.declared.hack_type.HackType.{HackType, out-HackType}
use Rattle.hack_types.specs.declared.hack_type.HackType.TheOpen.{HackType-F}
use Rattle.hack_types.specs.declared.ids.Kind.{Kind}
use Rattle.hack_types.specs.declared.ids.Kind.TheVariants.{Class, Func, Const}
use Rattle.hack_types.specs.declared.ids.SymbolId.{SymbolId}
use Rattle.hack_types.specs.declared.shallow.ClassSig.{ClassSig}
use Rattle.hack_decls.specs.declared.folded.Ancestor.{Ancestor}
use Rattle.hack_decls.specs.Names.{class_symbol}
use Rattle.hack_fold.specs.Parents.{Shallows, class_by, named_by}

abbrev pub same_kind : Kind → Kind → Bool
same_kind Class Class = true
same_kind Func Func = true
same_kind Const Const = true
same_kind _ _ = false

abbrev pub is_class_kind : Kind → Bool
is_class_kind Class = true
is_class_kind _ = false

abbrev pub same_symbol : SymbolId → SymbolId → Bool
same_symbol a b = same_kind a.kind b.kind && (a.name == b.name)

-- the symbol that a parent's type names; a type parameter and `_` name none
abbrev pub symbol_by : Option Ancestor → Option SymbolId
symbol_by None = None
symbol_by (Some parent) = Some (class_symbol parent.name)

abbrev pub type_symbol : HackType → Option SymbolId
type_symbol type = symbol_by (named_by (out-HackType type))

unfoldable pub type_symbols : List HackType → List SymbolId
type_symbols types = filter_map type_symbol types

abbrev pub symbols_by : Option ClassSig → List SymbolId
symbols_by None = []
symbols_by (Some sig) = type_symbols sig.uses ++ type_symbols sig.extends ++ type_symbols sig.implements

-- the parents of a symbol by name, good or not; only a class, an interface or a trait has any
unfoldable pub parent_symbols : Shallows → SymbolId → List SymbolId
parent_symbols shallows s = symbols_by (class_by (shallows s))

-- whether it is one of these
abbrev pub is_in : List SymbolId → SymbolId → Bool
is_in symbols s = list_any (same_symbol s) symbols

-- what is to be walked, from the first that isn't listed on
abbrev pub unlisted : (SymbolId → Bool) → List SymbolId → List SymbolId
unlisted is_listed [] = []
unlisted is_listed (s ∷ more) = if is_listed s then unlisted is_listed more else s ∷ more

-- what is listed, where nothing is left to walk
abbrev pub goes_on : (SymbolId → List SymbolId → List SymbolId) → List SymbolId → List SymbolId → List SymbolId
goes_on walk_on listed [] = listed
goes_on walk_on listed (s ∷ more) = walk_on s more

-- a walk with room for so many further names; what is to be walked stands in order, the parents of a name before what was to come
-- behind that name
unfoldable pub walk : Shallows → ℕ → List SymbolId → List SymbolId → List SymbolId
walk shallows zero listed ahead = listed
walk shallows (suc room) listed ahead =
    goes_on (λ s more. walk shallows room (listed ++ s ∷ []) (parent_symbols shallows s ++ more)) listed (unlisted (is_in listed) ahead)

-- how many names a line may have; with more the symbol is cyclic
abbrev pub most_names : ℕ
most_names = 256

abbrev pub line : Shallows → SymbolId → List SymbolId
line shallows s = walk shallows 257 [] (s ∷ [])

-- whether a parent's type names the symbol
abbrev pub names_by : SymbolId → HackType-F HackType → Bool
names_by s (HackType-F.Class name arguments) = is_class_kind s.kind && (s.name == name)
names_by s _ = false

abbrev pub names_symbol : SymbolId → HackType → Bool
names_symbol s type = names_by s (out-HackType type)

abbrev pub parent_by : SymbolId → Option ClassSig → Bool
parent_by s None = false
parent_by s (Some sig) = list_any (names_symbol s) sig.uses || (list_any (names_symbol s) sig.extends || list_any (names_symbol s) sig.implements)

-- whether it is a parent of the other
abbrev pub is_parent : Shallows → SymbolId → SymbolId → Bool
is_parent shallows s child = parent_by s (class_by (shallows child))

-- a name of its line has it as a parent
abbrev pub reaches_itself : Shallows → SymbolId → Bool
reaches_itself shallows s = list_any (is_parent shallows s) (line shallows s)

-- it is reached from itself, or its line has more than 256 names
unfoldable pub is_cyclic : Shallows → SymbolId → Bool
is_cyclic shallows s = reaches_itself shallows s || nat_lt most_names (length (line shallows s))
