-- Edits of the files, and which of them are refused (docs/script.md, Commands and Limits).
use Rattle.std.specs.Prelude.{◌≡◌, ◌≤◌, ◌<◌, ◌+◌, ◌^◌, ℕ, [], None, length}
use Rattle.std.specs.FinMap.{empty, get, insert}
use Rattle.hack_base.specs.Files as model
use Rattle.hack_base.specs.Files.{Files, Put, Remove, after, count, text}
use Rattle.hack_base.specs.Script.{IsFileName}
use Rattle.hack_builtin.specs.Builtin.{builtin_text}
use Rattle.hack_parse_file.specs.Room.{most_bytes}
use Rattle.check_state.specs.declared.edit.Edit.{Edit}
use Rattle.check_state.specs.declared.edit.Edit.TheVariants as edits
use Rattle.check_state.specs.declared.edit.EditStop.{EditStop}
use Rattle.check_state.specs.declared.edit.EditStop.TheVariants.{NoFile, TooManyFiles, TooMuchText, NoMemory}

-- the files before the first command: the builtin text under the empty name
abbrev pub first_files : Files
first_files = insert empty [] builtin_text

abbrev pub edit_of : Edit → model.Edit
edit_of (edits.Put name bytes) = Put name.items bytes.items
edit_of (edits.Drop name) = Remove name.items

-- there may be so many files, the builtin text not counted, and they may have so many bytes together (docs/script.md, Limits)
abbrev pub most_files : ℕ
most_files = 65536

abbrev pub most_text : ℕ
most_text = 2 ^ 26

-- the limits on an edit: a file name, and no more bytes than a file may have
abbrev pub IsWithinLimits : model.Edit → Type 0
IsWithinLimits (Put name bytes) = IsFileName name × (length bytes ≤ most_bytes)
IsWithinLimits (Remove name) = IsFileName name

-- twice the number of names that an edit can add
abbrev pub twice_names : model.Edit → ℕ
twice_names (Put name bytes) = length bytes + 3
twice_names (Remove name) = 0

-- the file to be taken away isn't there
abbrev pub IsMissing : Files → model.Edit → Type 0
IsMissing files (Put name bytes) = ⊥
IsMissing files (Remove name) = get files name ≡ None

-- it puts a file of a new name, and there are as many as there may be
abbrev pub AreTooMany : Files → model.Edit → Type 0
AreTooMany files (Put name bytes) = (get files name ≡ None) × (most_files ≤ count files)
AreTooMany files (Remove name) = ⊥

-- it puts a file, and the files have more than 64 MiB then
abbrev pub IsTooMuch : Files → model.Edit → Type 0
IsTooMuch files (Put name bytes) = most_text < text (after files (Put name bytes))
IsTooMuch files (Remove name) = ⊥

-- none of these
pub record IsAccepted (files : Files) (edit : model.Edit) : Type 0 where
  pub there : IsMissing files edit → ⊥
  pub not_many : AreTooMany files edit → ⊥
  pub not_much : IsTooMuch files edit → ⊥

-- it is refused so, with the number of files or of bytes that there are; of want of memory nothing is said
abbrev pub IsRefused : Files → model.Edit → EditStop → Type 0
IsRefused files edit NoFile = IsMissing files edit
IsRefused files edit (TooManyFiles have) = AreTooMany files edit × (have ≡ count files)
IsRefused files edit (TooMuchText have) = (AreTooMany files edit → ⊥) × IsTooMuch files edit × (have ≡ text files)
IsRefused files edit NoMemory = Unit {0}
