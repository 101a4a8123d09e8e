-- What a session of the code stands for, and what it needs (docs/script.md, Replies and Limits).
use Rattle.std.specs.Prelude.{◌≡◌, ◌≤◌, ◌+◌, ℕ, false, [], length}
use Rattle.hack_base.specs.Files.{Put, Remove}
use Rattle.script_text.specs.Script.{Command, File, Drop, Check, Begin, Wait}
use Rattle.script_text.specs.Replies.{reply_text}
use Rattle.script_text.specs.declared.reply.Reply.{Reply}
use Rattle.script_text.specs.declared.stand.Stand.TheVariants.{BeforeHead}
use Rattle.script_text.specs.Reader.{Reader}
use Rattle.check_state.specs.Edits.{IsWithinLimits}
use Rattle.check_state.specs.Stands.{Stands, name_count}
use Rattle.hack_serve.specs.Session as model
use Rattle.hack_serve.specs.Session.{IsReplied, first_session}
use Rattle.hack_serve.specs.declared.session.Session.{Session}

-- its state stands for the files of the session, and its numbers are those
pub record StandsFor (own : Session) (s : model.Session) : Type 0 where
  pub files : Stands own.state s.files
  pub edits : own.edits ≡ s.edits
  pub checks : own.checks ≡ s.checks

-- a reader before the first byte, and a session before the first command
pub record AreNew (reader : Reader) (session : Session) : Type 0 where
  pub reads : reader ≡ record { unused = []; taken = 0; ended = false; line = 1; stand = BeforeHead }
  pub stands : StandsFor session first_session
  pub names : name_count session.state ≤ 250

-- a file's name and text are within the limits
abbrev pub IsShort : Command → Type 0
IsShort (File name body) = IsWithinLimits (Put name body)
IsShort (Drop name) = IsWithinLimits (Remove name)
IsShort Check = Unit {0}
IsShort Begin = Unit {0}
IsShort Wait = Unit {0}

-- twice the number of names that the command can add
abbrev pub twice_names : Command → ℕ
twice_names (File name body) = length body + 3
twice_names (Drop name) = 0
twice_names Check = 0
twice_names Begin = 0
twice_names Wait = 0

-- the command is replied to with this, and the session goes on
pub record HasReplied (after : Session) (command : Command) (reply : Reply) (s : model.Session) : Type 0 where
  pub next : model.Session
  pub replied : IsReplied s command (reply_text reply) next
  pub stands : StandsFor after next
