-- How a reader goes through its bytes, step by step.
use Rattle.std.specs.Prelude.{◌≡◌, ◌+◌, ◌≤◌, ℕ, Bool, true, false, List, [], ◌∷◌, ◌++◌, Option, Some, None, length, drop}
use Rattle.script_text.specs.Heads.{split_first}
use Rattle.script_text.specs.Script.{found, line_head, next_head}
use Rattle.script_text.specs.Lines.{head_found}
use Rattle.script_text.specs.Reader.{Reader}
use Rattle.script_text.specs.declared.stand.Stand.{Stand}
use Rattle.script_text.specs.declared.stand.Stand.TheVariants.{BeforeHead, BeforeBody, Over}
use Rattle.script_text.specs.declared.reader.ScriptReader.TheInside.{Inside}

abbrev pub reader_view : Inside → Reader
reader_view r = record { unused = r.buffer; taken = r.taken; ended = r.ended; line = r.line; stand = r.stand }

-- a body stands behind a line that isn't empty
abbrev pub head_bytes : Stand → ℕ
head_bytes BeforeHead = 0
head_bytes (BeforeBody len) = 1
head_bytes Over = 0

pub record IsReader (r : Inside) : Type 0 where
  pub few : r.taken ≤ 2147483647
  pub lines : r.line + length r.buffer + head_bytes r.stand ≤ r.taken + 1
  pub from_one : 1 ≤ r.line

-- what stands next is the same, whatever follows
abbrev pub SameNext : ℕ → List ℕ → ℕ → List ℕ → Type 0
SameNext line bytes later rest = (whole : Bool) (more : List ℕ) → next_head whole line (bytes ++ more) ≡ next_head whole later (rest ++ more)

-- the first byte is there, and isn't LF
abbrev pub IsLineStart : List ℕ → Type 0
IsLineStart [] = ⊥
IsLineStart (b ∷ bytes) = (b ≡ 10) → ⊥

-- there is such a byte, or none and the end has come
abbrev pub IsSkipped : Bool → Reader → Type 0
IsSkipped true reader = IsLineStart reader.unused
IsSkipped false reader = (reader.unused ≡ []) × (reader.ended ≡ true)

-- what is behind the line that an LF at this index ends, or without an index behind all the bytes
abbrev pub rest_found : List ℕ → Option ℕ → List ℕ
rest_found bytes (Some at) = drop (at + 1) bytes
rest_found bytes None = []

-- the line ends so
abbrev pub IsLineEnd : Reader → Option ℕ → Type 0
IsLineEnd reader end = line_head reader.ended reader.line reader.unused (split_first 10 reader.unused)
    ≡ found (head_found reader.unused end) reader.line (rest_found reader.unused end)

-- neither the line nor the place in the forms changed
pub record SamePlace (before after : Reader) : Type 0 where
  pub line : after.line ≡ before.line
  pub stand : after.stand ≡ before.stand

-- more bytes stand behind those that were there, at least one unless the end has come
pub record IsFilled (before after : Reader) (more : List ℕ) : Type 0 where
  pub unused : after.unused ≡ before.unused ++ more
  pub grows : after.ended ≡ false → 1 ≤ length more
