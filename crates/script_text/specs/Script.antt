-- A script's commands one after another, each with the line of its first byte (docs/script.md, Form).
--
-- `whole` says that the bytes are all that are left. Where it is false more may come, and what is answered then holds
-- whatever comes.
use Rattle.std.specs.Prelude.{◌≡◌, ◌+◌, ◌==◌, nat_lt, if◌then◌else◌, ℕ, Bool, true, List, [], ◌∷◌, Option, Some, None, length, take, drop}
use Rattle.script_text.specs.Heads as heads
use Rattle.script_text.specs.Heads.{Head, split_first, head_of_line, may_be_last}

-- ---- heads

-- what stands next where a command may begin
pub data NextHead : Type 0 where
  -- a line in form, its number, and what stands behind it and its LF
  Found : Head → ℕ → List ℕ → NextHead
  -- a line in no form, with its number
  Broken : ℕ → NextHead
  -- only empty lines
  Ended : NextHead
  -- more bytes have to come
  Open : NextHead

abbrev pub found : Option Head → ℕ → List ℕ → NextHead
found (Some head) line rest = Found head line rest
found None line rest = Broken line

-- a line without LF, with which a script ends
abbrev pub last_head : List ℕ → Option Head
last_head text = heads.◌>>=◌ (head_of_line text) (λ head. if may_be_last head then Some head else None)

-- a line that isn't empty: LF ends it, or the script does; above 300 bytes it is in no form, whatever follows
abbrev pub line_head : Bool → ℕ → List ℕ → Option (List ℕ × List ℕ) → NextHead
line_head whole line bytes (Some parts) = found (head_of_line parts.0) line parts.1
line_head whole line bytes None =
    if nat_lt 300 (length bytes) then Broken line else if whole then found (last_head bytes) line [] else Open

-- empty lines are skipped, and count as lines
unfoldable pub next_head : Bool → ℕ → List ℕ → NextHead
next_head whole line [] = if whole then Ended else Open
next_head whole line (b ∷ bytes) = if b == 10 then next_head whole (line + 1) bytes else line_head whole line (b ∷ bytes) (split_first 10 (b ∷ bytes))

-- ---- bodies

-- what stands behind the head of a `file`
pub data NextBody : Type 0 where
  -- the body, and what stands behind it and its LF
  Body : List ℕ → List ℕ → NextBody
  -- fewer bytes than the head says, or no LF behind them
  Bad : NextBody
  -- more bytes have to come
  More : NextBody

-- LF stands behind a body, or the script ends
abbrev pub behind_body : Bool → List ℕ → List ℕ → NextBody
behind_body whole body [] = if whole then Body body [] else More
behind_body whole body (b ∷ rest) = if b == 10 then Body body rest else Bad

unfoldable pub next_body : Bool → ℕ → List ℕ → NextBody
next_body whole len bytes =
    if nat_lt (length bytes) len then (if whole then Bad else More) else behind_body whole (take len bytes) (drop len bytes)

-- how many LFs there are
abbrev pub newlines : List ℕ → ℕ
newlines [] = 0
newlines (b ∷ bytes) = (if b == 10 then 1 else 0) + newlines bytes

-- ---- commands

pub data Command : Type 0 where
  -- put a file of this name with these bytes
  File : List ℕ → List ℕ → Command
  -- there is no file of this name from now on
  Drop : List ℕ → Command
  -- report on the current files
  Check : Command
  -- begin such a report, which a change of the files may cancel
  Begin : Command
  -- wait for the report that was begun
  Wait : Command

-- how a script ends
pub data End : Type 0 where
  -- at the end of its bytes
  AtEnd : End
  -- at `quit`; nothing behind it is looked at
  AtQuit : End
  -- at a command in no form, whose first byte is in this line
  AtBad : ℕ → End

-- what stands next in a script
pub data Next : Type 0 where
  -- a command, the line of its first byte, the line behind it, and the bytes from there on
  One : Command → ℕ → ℕ → List ℕ → Next
  -- no further command
  No : End → Next
  -- more bytes have to come
  Later : Next

-- a `file` whose head is in this line
abbrev pub with_body : List ℕ → ℕ → NextBody → Next
with_body name line (Body body rest) = One (File name body) line (line + 2 + newlines body) rest
with_body name line Bad = No (AtBad line)
with_body name line More = Later

abbrev pub with_head : Bool → NextHead → Next
with_head whole (Found (heads.File name len) line rest) = with_body name line (next_body whole len rest)
with_head whole (Found (heads.Drop name) line rest) = One (Drop name) line (line + 1) rest
with_head whole (Found heads.Check line rest) = One Check line (line + 1) rest
with_head whole (Found heads.Begin line rest) = One Begin line (line + 1) rest
with_head whole (Found heads.Wait line rest) = One Wait line (line + 1) rest
with_head whole (Found heads.Quit line rest) = No AtQuit
with_head whole (Broken line) = No (AtBad line)
with_head whole Ended = No AtEnd
with_head whole Open = Later

-- the next command of bytes whose first is in this line
abbrev pub next_command : Bool → ℕ → List ℕ → Next
next_command whole line bytes = with_head whole (next_head whole line bytes)

-- all the bytes, whose first is in this line, are these commands, each with the line of its first byte, and end so
abbrev pub IsScript : ℕ → List ℕ → List (ℕ × Command) → End → Type 0
IsScript line bytes [] end = next_command true line bytes ≡ No end
IsScript line bytes (command ∷ commands) end = (after : ℕ) × (rest : List ℕ)
    × (next_command true line bytes ≡ One command.1 command.0 after rest) × IsScript after rest commands end
