-- What a `NamingTable` keeps beside the files' lists. No public clause names these.
use Rattle.std.specs.Prelude.{◌≡◌, ◌≢◌, ◌⊎◌, ◌<◌, ℕ, slice_get, List, Option, None, Some, IsSome, true, false, cond, map, length}
use Rattle.std.specs.List.{filter}
use Rattle.std.specs.BTreeMap as tree
use Rattle.std.specs.FinMap as finite
use Rattle.std.specs.FinMap.{from_entries}
use Rattle.std.specs.Global.{Vec}
use Rattle.std.specs.BTreeSet as sorted
use Rattle.std.specs.Ordering.{nat_cmp, ordering_then, eq_by_cmp, is_gt, is_le}
use Rattle.std.specs.declared.cmp.Ordering.{Ordering}
use Rattle.std.specs.declared.cmp.Ordering.TheVariants.{Less}
use Rattle.hack_base.specs.Files.{byte_order}
use Rattle.hack_types.specs.Report.{place_order}
use Rattle.hack_types.specs.declared.ids.Kind.{Kind}
use Rattle.hack_types.specs.contracts.ids.KindOrd.TheImpl as kind_ord
use Rattle.hack_types.specs.declared.ids.SymbolId.{SymbolId}
use Rattle.hack_names.specs.declared.unit.UnitHead.{UnitHead}
use Rattle.hack_names.specs.declared.keys.Spot.{Spot}
use Rattle.hack_names.specs.declared.keys.Declared.{Declared}
use Rattle.hack_names.specs.declared.index.Index.{Index}
use Rattle.hack_names.specs.Declarations.{Table}

-- ---- orders

-- as `Kind` has them
abbrev pub kind_order : Kind → Kind → Ordering
kind_order = kind_ord.ghosts.cmp

-- by kind, then by id
abbrev pub symbol_order : SymbolId → SymbolId → Ordering
symbol_order a b = ordering_then (kind_order a.kind b.kind) (nat_cmp a.name b.name)

-- by file, then by place, then by position
abbrev pub spot_order : Spot → Spot → Ordering
spot_order a b = ordering_then (byte_order a.file b.file) (ordering_then (place_order a.at b.at) (nat_cmp a.position b.position))

-- by symbol, then by spot
abbrev pub declared_order : Declared → Declared → Ordering
declared_order a b = ordering_then (symbol_order a.symbol b.symbol) (spot_order a.spot b.spot)

-- ---- declarations by their symbols

-- the head of the symbol's declaration at a spot
abbrev pub head_at : tree.BTreeMap Declared UnitHead → SymbolId → Spot → Option UnitHead
head_at declared symbol spot = tree.get declared_order declared (record { symbol = symbol; spot = spot })

-- another declaration of the symbol stands before this spot
abbrev pub IsBehind : tree.BTreeMap Declared UnitHead → SymbolId → Spot → Type 0
IsBehind declared symbol spot = (other : Spot) × (head : UnitHead) × (head_at declared symbol other ≡ Some head) × (spot_order other spot ≡ Less)

-- the symbol has no declaration behind another
abbrev pub HasNoTwo : tree.BTreeMap Declared UnitHead → SymbolId → Type 0
HasNoTwo declared symbol = (spot : Spot) (head : UnitHead) → head_at declared symbol spot ≡ Some head → IsBehind declared symbol spot → ⊥

-- each symbol with a declaration behind another is among these
abbrev pub AreNoted : tree.BTreeMap Declared UnitHead → sorted.BTreeSet SymbolId → Type 0
AreNoted declared symbols =
    (symbol : SymbolId) (spot : Spot) (head : UnitHead) → head_at declared symbol spot ≡ Some head → IsBehind declared symbol spot → sorted.contains symbol_order symbols symbol ≡ true

-- nothing declares the symbol
abbrev pub HasNone : tree.BTreeMap Declared UnitHead → SymbolId → Type 0
HasNone declared symbol = (spot : Spot) → head_at declared symbol spot ≡ None

-- the symbol is among these, or nothing declares it
abbrev pub IsNoted : tree.BTreeMap Declared UnitHead → sorted.BTreeSet SymbolId → SymbolId → Type 0
IsNoted declared symbols symbol = HasNone declared symbol ⊎ (sorted.contains symbol_order symbols symbol ≡ true)

-- what is among the old ones is among the new ones
abbrev pub KeepsNoted : sorted.BTreeSet SymbolId → sorted.BTreeSet SymbolId → Type 0
KeepsNoted old new = (symbol : SymbolId) → sorted.contains symbol_order old symbol ≡ true → sorted.contains symbol_order new symbol ≡ true

-- this is the symbol's first declaration
pub record IsFirst (declared : tree.BTreeMap Declared UnitHead) (symbol : SymbolId) (key : Declared) (head : UnitHead) : Type 0 where
  pub symbol_is : key.symbol ≡ symbol
  pub there : tree.get declared_order declared key ≡ Some head
  pub least : (spot : Spot) (other : UnitHead) → head_at declared symbol spot ≡ Some other → is_gt (spot_order key.spot spot) ≡ false

-- one map has at each key what the other has
abbrev pub IsSame : tree.BTreeMap Declared UnitHead → tree.BTreeMap Declared UnitHead → Type 0
IsSame old new = (key : Declared) → tree.get declared_order new key ≡ tree.get declared_order old key

-- the new map has this at the key, and at each other what the old one has
abbrev pub IsSet : tree.BTreeMap Declared UnitHead → Declared → Option UnitHead → tree.BTreeMap Declared UnitHead → Type 0
IsSet old key value new = (other : Declared) → tree.get declared_order new other ≡ cond (eq_by_cmp declared_order key other) value (tree.get declared_order old other)

-- the entries of this symbol and of those after it
abbrev pub from_symbol : SymbolId → List (Declared × UnitHead) → List (Declared × UnitHead)
from_symbol symbol entries = filter (λ e. is_le (symbol_order symbol e.0.symbol)) entries

-- each of these is a declaration of a symbol that stands behind another
abbrev pub HasOnlyLosers : tree.BTreeMap Declared UnitHead → tree.BTreeMap Spot UnitHead → Type 0
HasOnlyLosers declared losers =
    (spot : Spot) (head : UnitHead) → tree.get spot_order losers spot ≡ Some head → (symbol : SymbolId) × (head_at declared symbol spot ≡ Some head) × IsBehind declared symbol spot

-- each declaration of this symbol that stands behind another is among these
abbrev pub HasLosersOf : tree.BTreeMap Declared UnitHead → SymbolId → tree.BTreeMap Spot UnitHead → Type 0
HasLosersOf declared symbol losers =
    (spot : Spot) (head : UnitHead) → head_at declared symbol spot ≡ Some head → IsBehind declared symbol spot → IsSome (tree.get spot_order losers spot)

-- the same of every symbol
abbrev pub HasAllLosers : tree.BTreeMap Declared UnitHead → tree.BTreeMap Spot UnitHead → Type 0
HasAllLosers declared losers = (symbol : SymbolId) → HasLosersOf declared symbol losers

-- what has a spot in the old map has it in the new one
abbrev pub KeepsSpots : tree.BTreeMap Spot UnitHead → tree.BTreeMap Spot UnitHead → Type 0
KeepsSpots old new = (spot : Spot) → IsSome (tree.get spot_order old spot) → IsSome (tree.get spot_order new spot)

-- ---- declarations by their files

-- the key of a file's declaration by its head and its position in the file's list
abbrev pub key_of : List ℕ → ℕ → UnitHead → Declared
key_of file position head = record { symbol = head.symbol; spot = record { file = file; at = head.at; position = position } }

-- the key and the head are those of a unit in the file's list
abbrev pub IsUnit : List ℕ → List UnitHead → Declared → UnitHead → Type 0
IsUnit file heads key head = (position : ℕ) × (slice_get heads position ≡ Some head) × (key ≡ key_of file position head)

-- all declarations of the file are units in its list
abbrev pub HasOnly : tree.BTreeMap Declared UnitHead → List ℕ → List UnitHead → Type 0
HasOnly declared file heads = (key : Declared) (head : UnitHead) → key.spot.file ≡ file → tree.get declared_order declared key ≡ Some head → IsUnit file heads key head

-- the first so many units in the file's list are declarations
abbrev pub HasFirst : tree.BTreeMap Declared UnitHead → List ℕ → List UnitHead → ℕ → Type 0
HasFirst declared file heads count =
    (position : ℕ) (head : UnitHead) → position < count → slice_get heads position ≡ Some head → tree.get declared_order declared (key_of file position head) ≡ Some head

-- the file has no declaration
abbrev pub HasNothing : tree.BTreeMap Declared UnitHead → List ℕ → Type 0
HasNothing declared file = (key : Declared) → key.spot.file ≡ file → tree.get declared_order declared key ≡ None

-- the declarations of all other files stay
abbrev pub KeepsOtherFiles : List ℕ → tree.BTreeMap Declared UnitHead → tree.BTreeMap Declared UnitHead → Type 0
KeepsOtherFiles file old new = (key : Declared) → key.spot.file ≢ file → tree.get declared_order new key ≡ tree.get declared_order old key

-- ---- the whole

-- the files' lists as the table that contracts see
abbrev pub table_of : List (Vec ℕ × Vec UnitHead) → Table
table_of entries = from_entries (map (λ e. (e.0.items, e.1.items)) entries)

-- these are the declarations of the table's files, and no others
pub record IsTable (table : Table) (index : Index) : Type 0 where
  pub noted : AreNoted index.declared index.contested
  pub absent : (file : List ℕ) → finite.get table file ≡ None → HasNothing index.declared file
  pub only : (file : List ℕ) (heads : List UnitHead) → finite.get table file ≡ Some heads → HasOnly index.declared file heads
  pub all : (file : List ℕ) (heads : List UnitHead) → finite.get table file ≡ Some heads → HasFirst index.declared file heads (length heads)
