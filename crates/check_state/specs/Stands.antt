-- What a state stands for.
use Rattle.std.specs.Prelude.{◌≡◌, ◌≤◌, ◌+◌, ℕ, List, [], ◌∷◌, Option, None, Some, length, is_some, if◌then◌else◌}
use Rattle.std.specs.BTreeMap as tree
use Rattle.std.specs.FinMap.{get, insert}
use Rattle.hack_base.specs.Files as model
use Rattle.hack_base.specs.Files.{Files, Put, Remove, after, byte_order, count, text}
use Rattle.hack_builtin.specs.Builtin.{builtin_text}
use Rattle.hack_tree.specs.declared.declaration.Unit.{Unit as UnitOf}
use Rattle.hack_names.specs.Declarations.{Table}
use Rattle.hack_names.specs.declared.unit.UnitHead.{UnitHead}
use Rattle.hack_parse_file.specs.Files.{IsTree, IsFileFault}
use Rattle.hack_parse_file.specs.Room.{most_bytes, HasRoom}
use Rattle.hack_first.specs.FirstTrees.{first_units}
use Rattle.check_state.specs.declared.file.File.{File}
use Rattle.check_state.specs.declared.file.Parsed.{Parsed}
use Rattle.check_state.specs.declared.file.Parsed.TheVariants.{Tree, Fault}
use Rattle.check_state.specs.declared.edit.EditStop.{EditStop}
use Rattle.check_state.specs.declared.state.State.{State}
use Rattle.check_state.specs.Edits.{most_files, most_text, IsAccepted, IsRefused}

-- the names that it has, and how many
abbrev pub names_of : State → List (List ℕ)
names_of state = state.names

abbrev pub name_count : State → ℕ
name_count state = length (names_of state)

-- there is room for the names that an edit adds
abbrev pub HasRoomFor : State → model.Edit → Type 0
HasRoomFor state (Put name bytes) = HasRoom (names_of state) bytes
HasRoomFor state (Remove name) = Unit {0}

-- ---- one file

-- the bytes have this tree or this fault, with these names
abbrev pub IsParsed : List (List ℕ) → List ℕ → Parsed → Type 0
IsParsed names body (Tree tree) = IsTree names body tree
IsParsed names body (Fault place code) = IsFileFault body place code

-- the bytes are kept so
pub record IsRead (names : List (List ℕ)) (body : List ℕ) (file : File) : Type 0 where
  pub short : length body ≤ most_bytes
  pub len : file.len ≡ length body
  pub parsed : IsParsed names body file.parsed

-- what is there is kept, and nothing else
abbrev pub IsKept : List (List ℕ) → Option (List ℕ) → Option File → Type 0
IsKept names None None = Unit {0}
IsKept names None (Some file) = ⊥
IsKept names (Some body) None = ⊥
IsKept names (Some body) (Some file) = IsRead names body file

-- ---- heads

-- the head of the declaration at this index of its file
abbrev pub head_of : ℕ → UnitOf → UnitHead
head_of index u = record { symbol = u.symbol; at = u.start; name_at = u.name_at; index = index }

-- the heads of declarations, of which the first stands at this index
abbrev pub heads_from : ℕ → List UnitOf → List UnitHead
heads_from index [] = []
heads_from index (u ∷ units) = head_of index u ∷ heads_from (index + 1) units

-- the heads of a file, if it has a tree
abbrev pub heads_in : Parsed → Option (List UnitHead)
heads_in (Tree tree) = Some (heads_from 0 tree.units)
heads_in (Fault place code) = None

abbrev pub heads_kept : Option File → Option (List UnitHead)
heads_kept None = None
heads_kept (Some file) = heads_in file.parsed

-- the table with the heads of one file more
abbrev pub with_file : Table → List ℕ → Parsed → Table
with_file table name (Tree tree) = insert table name (heads_from 0 tree.units)
with_file table name (Fault place code) = table

-- ---- sums

-- 1 where there is a tree and it isn't a list of first units
abbrev pub others_in : Parsed → ℕ
others_in (Tree tree) = if is_some (first_units tree.units) then 0 else 1
others_in (Fault place code) = 0

-- what the files but the builtin text, whose name is empty, count together
abbrev pub named_sum : {X : Type 0} → (X → ℕ) → List (List ℕ × X) → ℕ
named_sum weight [] = 0
named_sum weight (([], file) ∷ files) = named_sum weight files
named_sum weight ((b ∷ name, file) ∷ files) = weight file + named_sum weight files

-- ---- the state

-- the state stands for these files
pub record Stands (state : State) (files : Files) : Type 0 where
  -- the builtin text is there
  pub builtin : get files [] ≡ Some builtin_text
  -- each file is kept as it is
  pub kept : (name : List ℕ) → IsKept state.names (get files name) (tree.get byte_order state.files name)
  pub ordered : tree.IsOrdered byte_order state.files
  -- the table has the heads of each file that has a tree, and nothing else
  pub table : (name : List ℕ) → get state.table name ≡ heads_kept (tree.get byte_order state.files name)
  -- the numbers are what they count
  pub counted : tree.btree_map_len state.files ≡ count files + 1
  pub written : state.text ≡ text files
  pub others : state.others ≡ named_sum (λ file. others_in file.parsed) state.files.entries
  -- and within their limits
  pub few : count files ≤ most_files
  pub short : text files ≤ most_text

-- ---- edits, whatever files the state stands for

-- whatever files the state stands for, the edit of these is accepted
abbrev pub Accepts : State → model.Edit → Type 0
Accepts state edit = (files : Files) → Stands state files → IsAccepted files edit

-- whatever files the state stands for, the edit of these is refused so
abbrev pub Refuses : State → model.Edit → EditStop → Type 0
Refuses state edit stop = (files : Files) → Stands state files → IsRefused files edit stop

-- whatever files the old state stands for, the new one stands for these after the edit
abbrev pub StandsAfter : State → State → model.Edit → Type 0
StandsAfter old new edit = (files : Files) → Stands old files → Stands new (after files edit)

-- whatever files the old state stands for, the new one stands for these too
abbrev pub StandsStill : State → State → Type 0
StandsStill old new = (files : Files) → Stands old files → Stands new files
