-- Which declaration of a name counts (docs/language.md, Which declaration counts): the first one by file name in bytes,
-- then by place, and where places are equal the one that is earlier in its file's list. All others lose.
use Rattle.std.specs.Prelude.{ℕ, List, [], ◌∷◌, ◌==◌, ◌&&◌, Bool, true, false, Option, if◌then◌else◌, map}
use Rattle.std.specs.List.{flat_map, find, list_any}
use Rattle.std.specs.Ordering.{is_gt}
use Rattle.std.specs.FinMap.{FinMap, entries}
use Rattle.hack_base.specs.Files.{byte_order}
use Rattle.hack_types.specs.Report.{place_order}
use Rattle.hack_types.specs.declared.ids.Kind.{Kind}
use Rattle.hack_types.specs.declared.ids.Kind.TheVariants.{Class, Func, Const}
use Rattle.hack_types.specs.declared.ids.SymbolId.{SymbolId}
use Rattle.hack_names.specs.declared.unit.UnitHead.{UnitHead}
use Rattle.hack_names.specs.declared.unit.UnitAt.{UnitAt}
use Rattle.hack_names.specs.declared.unit.UnitRef.{UnitRef}

-- the files by name, each with the heads of its units in their order
abbrev pub Table : Type 0
Table = FinMap byte_order (List UnitHead)

-- a file's name, and the head of one of its units
abbrev pub Declaration : Type 0
Declaration = UnitRef

-- ---- symbols

abbrev pub same_kind : Kind → Kind → Bool
same_kind Class Class = true
same_kind Func Func = true
same_kind Const Const = true
same_kind _ _ = false

-- of the same kind and name
abbrev pub same_symbol : SymbolId → SymbolId → Bool
same_symbol a b = same_kind a.kind b.kind && (a.name == b.name)

-- whether it declares this symbol
abbrev pub declares : SymbolId → Declaration → Bool
declares symbol d = same_symbol symbol d.head.symbol

-- ---- the order

-- heads by place, with this one ahead of those that don't start before it
abbrev pub with_head : UnitHead → List UnitHead → List UnitHead
with_head head [] = head ∷ []
with_head head (other ∷ others) = if is_gt (place_order head.at other.at) then other ∷ with_head head others else head ∷ other ∷ others

-- heads by place; those that start at one place keep their order
abbrev pub by_place : List UnitHead → List UnitHead
by_place [] = []
by_place (head ∷ heads) = with_head head (by_place heads)

-- a file's declarations by place
abbrev pub file_declarations : List ℕ → List UnitHead → List Declaration
file_declarations file heads = map (λ head. record { file = file; head = head }) (by_place heads)

-- the declarations of all files, in the order of the files' names, in each file by place
abbrev pub declarations : Table → List Declaration
declarations table = flat_map (λ entry. file_declarations entry.0 entry.1) (entries table)

-- ---- winners and losers

-- the declaration that counts: the first one of the symbol
abbrev pub winner : Table → SymbolId → Option Declaration
winner table symbol = find (declares symbol) (declarations table)

-- of these declarations, those whose symbol is declared by another one before them, or by one of `before`
abbrev pub behind : List Declaration → List Declaration → List Declaration
behind before [] = []
behind before (d ∷ ds) = if list_any (declares d.head.symbol) before then d ∷ behind (d ∷ before) ds else behind (d ∷ before) ds

-- the declarations that stand behind another one of their symbol, in the same order
abbrev pub losers : Table → List Declaration
losers table = behind [] (declarations table)

-- a borrowed unit as the declaration that it is
abbrev pub declaration_of : UnitAt → Declaration
declaration_of unit = record { file = unit.file.now; head = unit.head }
