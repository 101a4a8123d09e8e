-- What a check finds in files: facts about one map of files, whatever edits made it (docs/language.md, Reports and First
-- units). A function here is a first unit.
use Rattle.std.specs.Prelude.{◌≡◌, ◌≢◌, ◌⊎◌, ◌<◌, ℕ, List, [], Some, slice_get}
use Rattle.std.specs.FinMap.{get}
use Rattle.std.specs.declared.cmp.Ordering.TheVariants.{Less}
use Rattle.hack_base.specs.Files.{Files, byte_order}
use Rattle.hack_codes.specs.declared.code.Code.TheVariants as code
use Rattle.hack_diag.specs.Messages.{diag}
use Rattle.hack_diag.specs.Texts as text
use Rattle.hack_types.specs.declared.diag.Diag.{Diag}
use Rattle.hack_types.specs.declared.diag.FileDiag.{FileDiag}
use Rattle.hack_types.specs.declared.place.Place.{Place}
use Rattle.hack_types.specs.Report.{IsReport}
use Rattle.hack_parse_file.specs.Files.{IsFileFault}
use Rattle.hack_first.specs.declared.unit.Primitive.{Primitive}
use Rattle.hack_first.specs.Functions.{Function, Value, OfType, OfCall, type_text}
use Rattle.hack_first.specs.FirstUnits.{IsFirstBody}
use Rattle.check_state.specs.Faults.{fault_diag}

-- ---- what the files declare

-- the file of this name is a list of functions, and has this one at this index, from 0
pub record Declares (files : Files) (file : List ℕ) (index : ℕ) (f : Function) : Type 0 where
  pub body : List ℕ
  pub functions : List Function
  pub there : get files file ≡ Some body
  pub read : IsFirstBody body functions
  pub at_index : slice_get functions index ≡ Some f

-- what stands at the one index in the one file comes before what stands at the other: by file name in bytes, then in the file
abbrev pub IsBefore : List ℕ → ℕ → List ℕ → ℕ → Type 0
IsBefore file i other j = (byte_order file other ≡ Less) ⊎ ((file ≡ other) × (i < j))

-- a function of this name is declared before this place, so that one there doesn't count
pub record IsTaken (files : Files) (file : List ℕ) (index : ℕ) (name : List ℕ) : Type 0 where
  pub other : List ℕ
  pub at : ℕ
  pub function : Function
  pub declares : Declares files other at function
  pub named : function.name ≡ name
  pub before : IsBefore other at file index

-- of the functions of this name the first, which counts, has this result
pub record HasResult (files : Files) (name : List ℕ) (result : Primitive) : Type 0 where
  pub file : List ℕ
  pub index : ℕ
  pub function : Function
  pub declares : Declares files file index function
  pub named : function.name ≡ name
  pub counts : IsTaken files file index name → ⊥
  pub results : function.result ≡ result

-- ---- one function

-- the type of what a function returns: a literal's own, a call's the result of what it calls
abbrev pub HasType : Files → Value → Primitive → Type 0
HasType files (OfType primitive) found = found ≡ primitive
HasType files (OfCall name) found = HasResult files name found

-- what it returns is a call of this name, which no file declares
abbrev pub IsUnbound : Files → Value → List ℕ → Type 0
IsUnbound files (OfType primitive) name = ⊥
IsUnbound files (OfCall called) name = (called ≡ name) × ((result : Primitive) → HasResult files name result → ⊥)

-- 4001: the type of what is returned isn't the result that the function states
abbrev pub mismatch : Function → Primitive → Diag
mismatch f found = diag f.at code.Expected (text.expected (type_text f.result) (type_text found))

-- 4002: no file declares the called function
abbrev pub unbound : Function → List ℕ → Diag
unbound f name = diag f.at code.UnboundFunction (text.unbound_function name)

-- a finding in one function
abbrev pub IsUnitFinding : Files → Function → Diag → Type 0
IsUnitFinding files f d =
    ((found : Primitive) × HasType files f.value found × (found ≢ f.result) × (d ≡ mismatch f found))
    ⊎ ((name : List ℕ) × IsUnbound files f.value name × (d ≡ unbound f name))

-- 2001: another function of its name counts
abbrev pub taken : Function → Diag
taken f = diag f.name_at code.NameTaken (text.name_taken f.name)

-- ---- the report

-- the fault of a file that has no tree
abbrev pub IsFaultFinding : Files → FileDiag → Type 0
IsFaultFinding files d = (body : List ℕ) × (place : Place) × (code : ℕ)
    × (get files d.file ≡ Some body) × IsFileFault body place code × (d.diag ≡ fault_diag place code)

-- a function that doesn't count
abbrev pub IsTakenFinding : Files → FileDiag → Type 0
IsTakenFinding files d = (index : ℕ) × (f : Function)
    × Declares files d.file index f × IsTaken files d.file index f.name × (d.diag ≡ taken f)

-- a finding in a function that counts
abbrev pub IsCountedFinding : Files → FileDiag → Type 0
IsCountedFinding files d = (index : ℕ) × (f : Function)
    × Declares files d.file index f × (IsTaken files d.file index f.name → ⊥) × IsUnitFinding files f d.diag

abbrev pub IsFinding : Files → FileDiag → Type 0
IsFinding files d = IsFaultFinding files d ⊎ IsTakenFinding files d ⊎ IsCountedFinding files d

-- the report of the files: all these findings
abbrev pub IsFirstReport : Files → List FileDiag → Type 0
IsFirstReport files = IsReport (IsFinding files)

-- ---- what this build checks

-- the bytes are a list of first units, or have no tree
abbrev pub IsFirst : List ℕ → Type 0
IsFirst body = ((functions : List Function) × IsFirstBody body functions) ⊎ ((place : Place) × (code : ℕ) × IsFileFault body place code)

-- each file but the builtin text, whose name is empty, is such
abbrev pub AreFirst : Files → Type 0
AreFirst files = (name body : List ℕ) → get files name ≡ Some body → name ≢ [] → IsFirst body
