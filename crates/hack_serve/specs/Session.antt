-- A run of commands over one map of files: what is replied to each, and where it ends (docs/script.md, Replies). It knows no
-- state but the files and two numbers.
use Rattle.std.specs.Prelude.{◌≡◌, ◌⊎◌, ◌+◌, ℕ, List, [], ◌∷◌, ◌++◌}
use Rattle.hack_base.specs.Files as model
use Rattle.hack_base.specs.Files.{Files, Put, Remove, after}
use Rattle.hack_types.specs.declared.diag.FileDiag.{FileDiag}
use Rattle.hack_types.specs.Report.{report_text}
use Rattle.script_text.specs.Script.{Command, File, Drop, Check, Begin, Wait, End, AtEnd, AtQuit, AtBad, Next, One, No, Later}
use Rattle.script_text.specs.Replies.{edit_text, no_file_text}
use Rattle.check_state.specs.Edits.{first_files, IsMissing, AreTooMany, IsTooMuch, IsAccepted}
use Rattle.check_state.specs.Findings.{AreFirst, IsFirstReport}
use Rattle.hack_serve.specs.declared.status.Status.{Status}
use Rattle.hack_serve.specs.declared.status.Status.TheVariants as status

pub record Session : Type 0 where
  -- the current files
  pub files : Files
  -- how many edits were accepted
  pub edits : ℕ
  -- how many checks there were
  pub checks : ℕ

-- before the first command
abbrev pub first_session : Session
first_session = record { files = first_files; edits = 0; checks = 0 }

-- ---- one command

-- the edit is made, and its number replied
abbrev pub IsEdited : Session → model.Edit → List ℕ → Session → Type 0
IsEdited s edit text next =
    (text ≡ edit_text (s.edits + 1)) × (next ≡ record s { files = after s.files edit; edits = s.edits + 1 })

-- the report of the files is replied
abbrev pub IsChecked : Session → List ℕ → Session → Type 0
IsChecked s text next = (report : List FileDiag) × IsFirstReport s.files report
    × (text ≡ report_text (s.checks + 1) report) × (next ≡ record s { checks = s.checks + 1 })

-- the command is replied to with these bytes, and the session goes on so; `begin` and `wait` aren't built yet
abbrev pub IsReplied : Session → Command → List ℕ → Session → Type 0
IsReplied s (File name body) text next = IsAccepted s.files (Put name body) × IsEdited s (Put name body) text next
IsReplied s (Drop name) text next =
    (IsMissing s.files (Remove name) × (text ≡ no_file_text) × (next ≡ s))
    ⊎ (IsAccepted s.files (Remove name) × IsEdited s (Remove name) text next)
IsReplied s Check text next = AreFirst s.files × IsChecked s text next
IsReplied s Begin text next = ⊥
IsReplied s Wait text next = ⊥

-- the command, whose first byte is in this line, ends the run so, and is not replied to
abbrev pub EndsAt : Session → ℕ → Command → Status → Type 0
EndsAt s line (File name body) end = (AreTooMany s.files (Put name body) ⊎ IsTooMuch s.files (Put name body)) × (end ≡ status.BadScript line)
EndsAt s line (Drop name) end = ⊥
EndsAt s line Check end = (AreFirst s.files → ⊥) × (end ≡ status.NotBuilt)
EndsAt s line Begin end = end ≡ status.NotBuilt
EndsAt s line Wait end = end ≡ status.NotBuilt

-- ---- all of them

-- these commands, each with its line, are all replied to, with these bytes in order
abbrev pub AreReplied : Session → List (ℕ × Command) → List ℕ → Session → Type 0
AreReplied s [] out last = (out ≡ []) × (last ≡ s)
AreReplied s (command ∷ commands) out last = (text : List ℕ) × (later : List ℕ) × (next : Session)
    × IsReplied s command.1 text next × (out ≡ text ++ later) × AreReplied next commands later last

-- how a run ends that got to the end of its script
abbrev pub end_status : End → Status
end_status AtEnd = status.Done
end_status AtQuit = status.Done
end_status (AtBad line) = status.BadScript line

-- what stands next in the script ends the run so: a command at which it ends, or the end of the script
abbrev pub EndsWith : Session → Next → Status → Type 0
EndsWith s (One command line after rest) ends = EndsAt s line command ends
EndsWith s (No end) ends = ends ≡ end_status end
EndsWith s Later ends = ⊥

-- a script of these commands and this end has these bytes as its replies, and its run ends so
abbrev pub Replies : Session → List (ℕ × Command) → End → List ℕ → Status → Type 0
Replies s [] end out ends = (out ≡ []) × (ends ≡ end_status end)
Replies s (command ∷ commands) end out ends =
    (EndsAt s command.0 command.1 ends × (out ≡ []))
    ⊎ ((text : List ℕ) × (later : List ℕ) × (next : Session)
    × IsReplied s command.1 text next × (out ≡ text ++ later) × Replies next commands end later ends)
