-- What a reader of a script is to its callers, and what its calls do (docs/script.md, Form).
use Rattle.std.specs.Prelude.{◌≡◌, ◌⊎◌, ◌+◌, ◌-◌, ◌^◌, ℕ, Bool, true, false, List, [], ◌∷◌, ◌++◌, Option, Some, None, length}
use Rattle.std.specs.Io.KnownBytes.{Consumes, IsAtEnd}
use Rattle.hack_io.specs.Causes.{Rose}
use Rattle.script_text.specs.Heads as heads
use Rattle.script_text.specs.Script.{Found, Broken, Ended, Open, next_head, Body, Bad, More, next_body, newlines}
use Rattle.script_text.specs.declared.stand.Stand.{Stand}
use Rattle.script_text.specs.declared.stand.Stand.TheVariants.{BeforeHead, BeforeBody, Over}
use Rattle.script_text.specs.declared.head.Head.{Head}
use Rattle.script_text.specs.declared.head.Head.TheVariants as head
use Rattle.script_text.specs.declared.head.ReadStop.{ReadStop}
use Rattle.script_text.specs.declared.head.ReadStop.TheVariants as stop

pub record Reader : Type 0 where
  -- the bytes that it took and hasn't used
  pub unused : List ℕ
  -- how many bytes it took in all
  pub taken : ℕ
  -- whether a pull gave 0
  pub ended : Bool
  -- the line of the first unused byte, from 1
  pub line : ℕ
  -- where it stands in the forms of a script
  pub stand : Stand

-- the head that an answer is; none at the end
abbrev pub head_of : Head → Option heads.Head
head_of (head.File name len) = Some (heads.File name.items len)
head_of (head.Drop name) = Some (heads.Drop name.items)
head_of head.Check = Some heads.Check
head_of head.Begin = Some heads.Begin
head_of head.Wait = Some heads.Wait
head_of head.Quit = Some heads.Quit
head_of head.End = None

-- where a reader stands behind a head
abbrev pub stand_behind : heads.Head → Stand
stand_behind (heads.File name len) = BeforeBody len
stand_behind (heads.Drop name) = BeforeHead
stand_behind heads.Check = BeforeHead
stand_behind heads.Begin = BeforeHead
stand_behind heads.Wait = BeforeHead
stand_behind heads.Quit = Over

-- where a reader stands behind a head, or at the end
abbrev pub stand_after : Option heads.Head → Stand
stand_after (Some head) = stand_behind head
stand_after None = BeforeHead

-- a call took some bytes of the source, none once a pull had given 0, and it holds of them
pub record Takes (source rest : Option (List ℕ)) (before after : Reader) (P : List ℕ → Type 0) : Type 0 where
  pub more : List ℕ
  pub consumed : Consumes source rest more
  pub count : after.taken ≡ before.taken + length more
  pub none : before.ended ≡ true → more ≡ []
  pub still : before.ended ≡ true → rest ≡ source
  pub stays : before.ended ≡ true → after.ended ≡ true
  pub end : after.ended ≡ true → (before.ended ≡ true) ⊎ IsAtEnd rest
  pub holds : P more

-- the head that stands next in what the reader had and what it took, with all that may still come
abbrev pub ReadsHead : Reader → List ℕ → Reader → Option heads.Head → Type 0
ReadsHead before more after (Some head) = (line : ℕ) × (next_head after.ended before.line (before.unused ++ more) ≡ Found head line after.unused)
    × (after.line ≡ line + 1)
ReadsHead before more after None = (next_head after.ended before.line (before.unused ++ more) ≡ Ended)
    × (after.ended ≡ true) × (after.unused ≡ [])

-- the body that stands next
pub record ReadsBody (before : Reader) (more : List ℕ) (after : Reader) (len : ℕ) (body : List ℕ) : Type 0 where
  pub next : next_body after.ended len (before.unused ++ more) ≡ Body body after.unused
  pub line : after.line ≡ before.line + newlines body + 1

-- where a reader stands once it passed over this body, behind which this is left
abbrev pub past_body : Reader → List ℕ → List ℕ → Reader
past_body before body rest = record before { unused = rest; line = before.line + newlines body + 1 }

-- the body that stands next is passed over, and then the head that stands next
pub record ReadsBehind (before : Reader) (more : List ℕ) (after : Reader) (len : ℕ) (head : Option heads.Head) : Type 0 where
  pub body : List ℕ
  pub rest : List ℕ
  pub next : next_body after.ended len (before.unused ++ more) ≡ Body body rest
  pub head_there : ReadsHead (past_body before body rest) [] after head

-- the bytes are in no form where a body stands next: that body, at the line before, or the head behind it
abbrev pub IsBrokenBehind : ℕ → ℕ → Bool → List ℕ → ℕ → Type 0
IsBrokenBehind len line whole bytes at = ((next_body whole len bytes ≡ Bad) × (at + 1 ≡ line))
    ⊎ ((body : List ℕ) × (rest : List ℕ) × (next_body whole len bytes ≡ Body body rest) × (next_head whole (line + newlines body + 1) rest ≡ Broken at))

-- more bytes have to come: for the body, or for the head behind it
abbrev pub WaitsBehind : ℕ → ℕ → List ℕ → Type 0
WaitsBehind len line bytes = (next_body false len bytes ≡ More)
    ⊎ ((body : List ℕ) × (rest : List ℕ) × (next_body false len bytes ≡ Body body rest) × (next_head false (line + newlines body + 1) rest ≡ Open))

-- Why a call stopped. `broken whole bytes line` says that the bytes are in no form, whatever comes where they aren't all, for
-- the command in that line; `waits bytes` says that more have to come. `TooLong`: 2^31 - 1 bytes were taken, and then one more.
-- The source is asked for more only where no pull had given 0.
abbrev pub Stops : ℕ → ℕ → Option (List ℕ) → Option (List ℕ) → Reader → Reader → (Bool → List ℕ → ℕ → Type 0) → (List ℕ → Type 0) → ReadStop → Type 0
Stops faults_before faults_after source rest before after broken waits (stop.BadScript line) =
    Takes source rest before after (λ more. broken after.ended (before.unused ++ more) line)
Stops faults_before faults_after source rest before after broken waits stop.Fault =
    Rose faults_before faults_after × Takes source rest before after (λ more. waits (before.unused ++ more)) × (before.ended ≡ false)
Stops faults_before faults_after source rest before after broken waits stop.TooLong = (more : List ℕ) × (byte : ℕ)
    × Consumes source rest (more ++ byte ∷ []) × (before.taken + length more ≡ 2 ^ 31 - 1) × waits (before.unused ++ more)
    × (before.ended ≡ false)
Stops faults_before faults_after source rest before after broken waits stop.NoMemory = Takes source rest before after (λ more. Unit {0})
