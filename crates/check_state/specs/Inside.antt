-- What a check of a state finds, step by step. No public clause names these.
use Rattle.std.specs.Prelude.{◌==◌, ◌&&◌, ◌+◌, if◌then◌else◌, ℕ, List, [], ◌∷◌, ◌++◌, Bool, true, false, Option, None, Some, slice_get}
use Rattle.std.specs.BTreeMap as tree
use Rattle.std.specs.Str.{bytes_eq}
use Rattle.hack_base.specs.Files.{byte_order}
use Rattle.hack_codes.specs.declared.code.Code.TheVariants as code
use Rattle.hack_diag.specs.Messages.{diag}
use Rattle.hack_diag.specs.Texts as text
use Rattle.hack_types.specs.declared.diag.Diag.{Diag}
use Rattle.hack_types.specs.declared.diag.FileDiag.{FileDiag}
use Rattle.hack_types.specs.declared.hack_type.HackType.{HackType}
use Rattle.hack_types.specs.declared.hack_type.HackType.TheVariants as type
use Rattle.hack_types.specs.declared.ids.Kind.TheVariants.{Func}
use Rattle.hack_types.specs.declared.ids.SymbolId.{SymbolId}
use Rattle.hack_names.specs.Declarations.{Declaration, winner, losers}
use Rattle.hack_tree.specs.declared.declaration.Unit.{Unit as UnitOf}
use Rattle.hack_first.specs.declared.unit.FirstUnit.{FirstUnit}
use Rattle.hack_first.specs.declared.unit.Primitive.{Primitive}
use Rattle.hack_first.specs.declared.unit.Primitive.TheVariants.{Int, Str}
use Rattle.hack_first.specs.declared.unit.Returned.{Returned}
use Rattle.hack_first.specs.declared.unit.Returned.TheVariants.{Literal, Call}
use Rattle.hack_first.specs.FirstTrees.{first_in}
use Rattle.hack_first.specs.Functions.{function_of, named, type_text}
use Rattle.check_state.specs.declared.file.File.{File}
use Rattle.check_state.specs.declared.file.Parsed.{Parsed}
use Rattle.check_state.specs.declared.file.Parsed.TheVariants.{Tree, Fault}
use Rattle.check_state.specs.declared.state.State.{State}
use Rattle.check_state.specs.Faults.{fault_diag}
use Rattle.check_state.specs.Findings.{unbound}

-- ---- functions that count

-- the symbol of the function of this name
abbrev pub function_symbol : ℕ → SymbolId
function_symbol name = record { kind = Func; name = name }

-- the first unit at an index of a file
abbrev pub first_in_units : Option UnitOf → Option FirstUnit
first_in_units None = None
first_in_units (Some u) = first_in u.start u.tree

abbrev pub first_in_parsed : Parsed → ℕ → Option FirstUnit
first_in_parsed (Tree read) index = first_in_units (slice_get read.units index)
first_in_parsed (Fault place code) index = None

abbrev pub first_kept : Option File → ℕ → Option FirstUnit
first_kept None index = None
first_kept (Some file) index = first_in_parsed file.parsed index

abbrev pub result_in : Option FirstUnit → Option Primitive
result_in None = None
result_in (Some x) = Some x.result

-- the result of the function that a declaration is
abbrev pub declared_result : State → Option Declaration → Option Primitive
declared_result state None = None
declared_result state (Some d) = result_in (first_kept (tree.get byte_order state.files d.file) d.head.index)

-- the result of the function of this name, if one is declared
abbrev pub result_at : State → ℕ → Option Primitive
result_at state name = declared_result state (winner state.table (function_symbol name))

-- whether the declaration is that at this index of the file
abbrev pub is_there : List ℕ → ℕ → Option Declaration → Bool
is_there file index None = false
is_there file index (Some d) = bytes_eq d.file file && (d.head.index == index)

-- ---- one unit

-- the type that a primitive is
abbrev pub type_of : Primitive → HackType
type_of Int = type.Int
type_of Str = type.Str

abbrev pub type_found : State → Returned → Option Primitive
type_found state (Literal primitive) = Some primitive
type_found state (Call name) = result_at state name

-- the text of the name that is called
abbrev pub called : List (List ℕ) → Returned → List ℕ
called names (Literal primitive) = []
called names (Call name) = named names name

abbrev pub same_type : Primitive → Primitive → Bool
same_type Int Int = true
same_type Int Str = false
same_type Str Int = false
same_type Str Str = true

-- 4001, as a unit gives it
abbrev pub mismatch_diag : FirstUnit → Primitive → Diag
mismatch_diag x found = diag x.at code.Expected (text.expected (type_text x.result) (type_text found))

-- the finding in a unit whose value has this type, if it has one
abbrev pub finding_for : List (List ℕ) → FirstUnit → Option Primitive → Option Diag
finding_for names x None = Some (unbound (function_of names x) (called names x.returned))
finding_for names x (Some found) = if same_type found x.result then None else Some (mismatch_diag x found)

-- the finding in a unit at this index of the file, which is none where it doesn't count
abbrev pub first_finding : State → List ℕ → ℕ → Option FirstUnit → Option Diag
first_finding state file index None = None
first_finding state file index (Some x) =
    if is_there file index (winner state.table (function_symbol x.name)) then finding_for state.names x (type_found state x.returned) else None

-- ---- all files

abbrev pub with_file : List ℕ → Option Diag → List FileDiag
with_file file None = []
with_file file (Some d) = record { file = file; diag = d } ∷ []

-- the findings in the units of a file, of which the first stands at this index
abbrev pub unit_findings : State → List ℕ → ℕ → List UnitOf → List FileDiag
unit_findings state file index [] = []
unit_findings state file index (u ∷ units) = with_file file (first_finding state file index (first_in u.start u.tree)) ++ unit_findings state file (index + 1) units

abbrev pub parsed_findings : State → List ℕ → Parsed → List FileDiag
parsed_findings state file (Tree read) = unit_findings state file 0 read.units
parsed_findings state file (Fault place code) = record { file = file; diag = fault_diag place code } ∷ []

-- what is said of a declaration of a file that doesn't count
abbrev pub taken_diag : List (List ℕ) → Declaration → Diag
taken_diag names d = diag d.head.name_at code.NameTaken (text.name_taken (named names d.head.symbol.name))

-- nothing is said of the builtin text
abbrev pub taken_finding : List (List ℕ) → List ℕ → Declaration → List FileDiag
taken_finding names [] d = []
taken_finding names (b ∷ name) d = record { file = b ∷ name; diag = taken_diag names d } ∷ []

abbrev pub taken_findings : List (List ℕ) → List Declaration → List FileDiag
taken_findings names [] = []
taken_findings names (d ∷ ds) = taken_finding names d.file d ++ taken_findings names ds

abbrev pub kept_findings : State → List (List ℕ × File) → List FileDiag
kept_findings state [] = []
kept_findings state (e ∷ es) = parsed_findings state e.0 e.1.parsed ++ kept_findings state es

abbrev pub all_findings : State → List FileDiag
all_findings state = kept_findings state state.files.entries ++ taken_findings state.names (losers state.table)
