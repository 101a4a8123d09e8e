-- Files: a finite map from names to bytes. A name and a text are lists of bytes (docs/definitions.md, Files).
use Rattle.std.specs.Prelude.{List, [], ◌∷◌, ℕ, ◌+◌, Bool, true, false, length}
use Rattle.std.specs.List.{filter}
use Rattle.std.specs.Ordering.{nat_cmp}
use Rattle.std.specs.Cmp.Lexicographic.{slice_cmp}
use Rattle.std.specs.declared.cmp.Ordering.{Ordering}
use Rattle.std.specs.FinMap.{FinMap, entries, insert, remove}

-- the lexicographic order of bytes
abbrev pub byte_order : List ℕ → List ℕ → Ordering
byte_order = slice_cmp nat_cmp

abbrev pub Files : Type 0
Files = FinMap byte_order (List ℕ)

-- one change of one file
pub data Edit : Type 0 where
  -- the file of this name has these bytes from now on
  Put : List ℕ → List ℕ → Edit
  -- there is no file of this name from now on
  Remove : List ℕ → Edit

-- the files after a change; every other file stays
abbrev pub after : Files → Edit → Files
after files (Put name bytes) = insert files name bytes
after files (Remove name) = remove files name

-- ---- how much there is

-- a file of a script has a name that isn't empty; under the empty name stands the builtin text
abbrev pub is_named : List ℕ × List ℕ → Bool
is_named ([], body) = false
is_named (b ∷ name, body) = true

abbrev pub total_length : List (List ℕ × List ℕ) → ℕ
total_length [] = 0
total_length (file ∷ files) = length file.1 + total_length files

-- how many files there are, the builtin text not counted
abbrev pub count : Files → ℕ
count files = length (filter is_named (entries files))

-- how many bytes they have together, the builtin text not counted
abbrev pub text : Files → ℕ
text files = total_length (filter is_named (entries files))
