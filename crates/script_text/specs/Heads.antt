-- The lines that begin a command, and how each is read off its bytes (docs/script.md, Form).
use Rattle.std.specs.Prelude.{◌+◌, ◌-◌, ◌*◌, ◌&&◌, ◌||◌, ◌==◌, nat_le, nat_lt, if◌then◌else◌, ℕ, Bool, true, false, not, List, [], ◌∷◌, Option, Some, None, length, take, drop, codes, option_and_then}
use Rattle.std.specs.Str.{bytes_eq}
use Rattle.std.specs.List.{list_all}

-- the line that begins a command
pub data Head : Type 0 where
  -- a file of this name, of so many bytes, which stand behind the line
  File : List ℕ → ℕ → Head
  -- no file of this name any more
  Drop : List ℕ → Head
  Check : Head
  Begin : Head
  Wait : Head
  Quit : Head

infixl 10 ◌>>=◌
abbrev pub ◌>>=◌ : {A B : Type 0} → Option A → (A → Option B) → Option B
o >>= f = option_and_then f o

-- what stands before the first such byte, and what stands behind it
abbrev pub split_first : ℕ → List ℕ → Option (List ℕ × List ℕ)
split_first byte [] = None
split_first byte (x ∷ xs) = if x == byte then Some ([], xs) else split_first byte xs >>= λ parts. Some (x ∷ parts.0, parts.1)

-- what stands behind a front
unfoldable pub behind : List ℕ → List ℕ → Option (List ℕ)
behind front bytes = if bytes_eq (take (length front) bytes) front then Some (drop (length front) bytes) else None

-- 0 to 9
abbrev pub is_digit : ℕ → Bool
is_digit b = nat_le 48 b && nat_le b 57

-- the value of digits, after a number in front of them
abbrev pub value_after : ℕ → List ℕ → ℕ
value_after n [] = n
value_after n (d ∷ ds) = value_after (10 * n + (d - 48)) ds

-- one to seven of them, since a file has at most 1 MiB, without a needless zero in front
abbrev pub is_plain : List ℕ → Bool
is_plain [] = false
is_plain (d ∷ []) = true
is_plain (d ∷ e ∷ ds) = nat_le (length ds + 2) 7 && not (d == 48)

-- a number in decimal digits, without sign and without a needless zero in front
unfoldable pub number : List ℕ → Option ℕ
number ds = if is_plain ds && list_all is_digit ds then Some (value_after 0 ds) else None

-- A-Z, a-z, 0-9 and _ . / -
abbrev pub is_name_byte : ℕ → Bool
is_name_byte b = (nat_le 65 b && nat_le b 90) || (nat_le 97 b && nat_le b 122) || (nat_le 45 b && nat_le b 57) || b == 95

-- 1 to 255 such bytes
abbrev pub is_file_name : List ℕ → Bool
is_file_name name = nat_le 1 (length name) && (nat_le (length name) 255 && list_all is_name_byte name)

-- `NAME LEN`, at most 1 MiB long
unfoldable pub file_head : List ℕ → Option Head
file_head words = do
  parts ← split_first 32 words
  len ← number parts.1
  if is_file_name parts.0 && nat_le len 1048576 then Some (File parts.0 len) else None

-- `NAME`
unfoldable pub drop_head : List ℕ → Option Head
drop_head name = if is_file_name name then Some (Drop name) else None

-- a command of one word
unfoldable pub word_head : List ℕ → Option Head
word_head word =
    if bytes_eq word (codes "check") then Some Check else
    if bytes_eq word (codes "begin") then Some Begin else
    if bytes_eq word (codes "wait") then Some Wait else
    if bytes_eq word (codes "quit") then Some Quit else None

-- the head of a line, of what stands behind `file ` and behind `drop ` in it, where it begins so
abbrev pub head_by : Option (List ℕ) → Option (List ℕ) → List ℕ → Option Head
head_by (Some words) name line = file_head words
head_by None (Some name) line = drop_head name
head_by None None line = word_head line

-- a line, without its LF: at most 300 bytes, which are `file NAME LEN`, `drop NAME`, or one word
unfoldable pub head_of_line : List ℕ → Option Head
head_of_line line = if nat_lt 300 (length line) then None else head_by (behind (codes "file ") line) (behind (codes "drop ") line) line

-- the last line of a script may lack its LF, unless it is that of `file`
abbrev pub may_be_last : Head → Bool
may_be_last (File name len) = false
may_be_last (Drop name) = true
may_be_last Check = true
may_be_last Begin = true
may_be_last Wait = true
may_be_last Quit = true
