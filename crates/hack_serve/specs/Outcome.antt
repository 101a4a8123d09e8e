-- What each status says of the script and of what was written (docs/script.md, Statuses).
use Rattle.std.specs.Prelude.{◌≡◌, ◌≤◌, ◌-◌, ◌^◌, ℕ, Bool, true, List, [], ◌∷◌, ◌++◌, Option, None, Some, length}
use Rattle.std.specs.Io.KnownBytes.{Appends, Consumes, IsAtEnd}
use Rattle.script_text.specs.Script.{Command, End, One, next_command, IsScript}
use Rattle.script_text.specs.Whole.{StandWhole}
use Rattle.hack_serve.specs.Session.{Session, first_session, IsReplied, AreReplied, EndsWith, Replies}
use Rattle.hack_serve.specs.declared.status.Status.{Status}
use Rattle.hack_serve.specs.declared.status.Status.TheVariants.{Done, Usage, BadScript, ReadFault, WriteFault, TooLong, NotBuilt, NoMemory}

-- what a source has left, where it tells that, else nothing
abbrev pub told : Option (List ℕ) → List ℕ
told None = []
told (Some left) = left

-- ---- commands that stand first

-- of these bytes, whose first is in this line, these commands stand first, and behind them come `rest`, whose first is in the line
-- `behind`; `whole` says that nothing comes behind the bytes, and only then the last line or body may lack its LF
abbrev pub StandFirst : Bool → ℕ → List ℕ → List (ℕ × Command) → ℕ → List ℕ → Type 0
StandFirst whole line bytes [] behind rest = (line ≡ behind) × (bytes ≡ rest)
StandFirst whole line bytes (command ∷ commands) behind rest = (after : ℕ) × (more : List ℕ)
    × (next_command whole line bytes ≡ One command.1 command.0 after more) × StandFirst whole after more commands behind rest

-- these commands stand first in the bytes that were taken of a source in which this is left, where it tells that
pub record StandTaken (taken : List ℕ) (left : Option (List ℕ)) (commands : List (ℕ × Command)) : Type 0 where
  -- whether the bytes taken are known to be all
  pub whole : Bool
  pub only_at_end : whole ≡ true → IsAtEnd left
  -- the bytes behind the commands, and the line of their first
  pub line : ℕ
  pub rest : List ℕ
  pub stand : StandFirst whole 1 taken commands line rest

-- ---- ends

-- the script's replies are these bytes, and its run ends so
abbrev pub IsAnswered : List ℕ → List ℕ → Status → Type 0
IsAnswered script out status = (commands : List (ℕ × Command)) × (end : End)
    × IsScript 1 script commands end × Replies first_session commands end out status

-- the bytes taken, and that no more come where that is known, settle that the run ends so: commands stand first in them, the
-- bytes written are the replies to these, and what stands next, a command or the end of the script, ends the run
abbrev pub IsSettled : List ℕ → Option (List ℕ) → List ℕ → Status → Type 0
IsSettled taken left out status = (commands : List (ℕ × Command)) × (last : Session)
    × (front : StandTaken taken left commands) × AreReplied first_session commands out last
    × EndsWith last (next_command front.whole front.line front.rest) status

-- the bytes are the replies to exactly the commands that stand whole, with their last LF, in those that were taken
abbrev pub IsBrokenOff : List ℕ → List ℕ → Type 0
IsBrokenOff taken out = (commands : List (ℕ × Command)) × (last : Session)
    × StandWhole 1 taken commands × AreReplied first_session commands out last

-- the bytes are the replies to some first commands
abbrev pub IsStopped : List ℕ → Option (List ℕ) → List ℕ → Type 0
IsStopped taken left out = (commands : List (ℕ × Command)) × (last : Session)
    × StandTaken taken left commands × AreReplied first_session commands out last

-- the bytes are the replies to some first commands, and then a prefix of the reply to the next
abbrev pub IsCutShort : List ℕ → Option (List ℕ) → List ℕ → Type 0
IsCutShort taken left out = (commands : List (ℕ × Command)) × (next : ℕ × Command) × (before last : Session)
    × (replies part rest : List ℕ) × StandTaken taken left (commands ++ next ∷ []) × AreReplied first_session commands replies before
    × IsReplied before next.1 (part ++ rest) last × (out ≡ replies ++ part)

-- 2^31 - 1 bytes were taken and then one more; the commands that stand whole in the former were replied to
abbrev pub IsTooLong : List ℕ → List ℕ → Type 0
IsTooLong taken out = (script : List ℕ) × (byte : ℕ) × (taken ≡ script ++ byte ∷ []) × (length script ≡ 2 ^ 31 - 1) × IsBrokenOff script out

-- ---- statuses

-- what was taken of a source in which this is left, and what was written, fit the status
abbrev pub Fits : Status → List ℕ → Option (List ℕ) → List ℕ → Type 0
Fits Done taken left out = IsSettled taken left out Done × IsAnswered (taken ++ told left) out Done
Fits Usage taken left out = (taken ≡ []) × (out ≡ [])
Fits (BadScript line) taken left out = IsSettled taken left out (BadScript line) × IsAnswered (taken ++ told left) out (BadScript line)
Fits ReadFault taken left out = IsBrokenOff taken out
Fits WriteFault taken left out = IsCutShort taken left out
Fits TooLong taken left out = IsTooLong taken out
Fits NotBuilt taken left out = IsSettled taken left out NotBuilt × IsAnswered (taken ++ told left) out NotBuilt
Fits NoMemory taken left out = IsStopped taken left out

-- at most 2^31 - 1 bytes are taken; at `TooLong` one more was
abbrev pub most_taken : Status → ℕ
most_taken Done = 2 ^ 31 - 1
most_taken Usage = 0
most_taken (BadScript line) = 2 ^ 31 - 1
most_taken ReadFault = 2 ^ 31 - 1
most_taken WriteFault = 2 ^ 31 - 1
most_taken TooLong = 2 ^ 31
most_taken NotBuilt = 2 ^ 31 - 1
most_taken NoMemory = 2 ^ 31 - 1

-- what was taken between the two, and what was written between the two, fit the status
abbrev pub Answers : Status → Option (List ℕ) → Option (List ℕ) → Option (List ℕ) → Option (List ℕ) → Type 0
Answers status source left before now = (taken out : List ℕ)
    × Consumes source left taken × Appends before now out × (length taken ≤ most_taken status) × Fits status taken left out
