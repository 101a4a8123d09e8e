-- The commands of a script as the code has them, and how they are read (docs/script.md, Form).
use Rattle.std.specs.Prelude.{◌≡◌, ◌++◌, ℕ, List, Option, Some, None}
use Rattle.script_text.specs.Script as script
use Rattle.script_text.specs.Script.{End, AtEnd, AtQuit, AtBad, One, No}
use Rattle.script_text.specs.Reader.{Reader}
use Rattle.script_text.specs.declared.head.ReadStop.{ReadStop}
use Rattle.script_text.specs.declared.head.ReadStop.TheVariants as stop
use Rattle.hack_serve.specs.declared.command.Command.{Command}
use Rattle.hack_serve.specs.declared.command.Command.TheVariants.{File, Drop, Check, Begin, Wait}
use Rattle.hack_serve.specs.declared.status.Status.{Status}
use Rattle.hack_serve.specs.declared.status.Status.TheVariants.{BadScript, ReadFault, TooLong, NoMemory}

-- the status of a reader's stop
abbrev pub status_of : ReadStop → Status
status_of (stop.BadScript line) = BadScript line
status_of stop.Fault = ReadFault
status_of stop.TooLong = TooLong
status_of stop.NoMemory = NoMemory

-- the command without its line
abbrev pub command_of : Command → script.Command
command_of (File line name body) = script.File name.items body.items
command_of (Drop name) = script.Drop name.items
command_of Check = script.Check
command_of Begin = script.Begin
command_of Wait = script.Wait

-- this is its line, as far as it notes one
abbrev pub IsLineOf : Command → ℕ → Type 0
IsLineOf (File line name body) at = line ≡ at
IsLineOf (Drop name) at = Unit {0}
IsLineOf Check at = Unit {0}
IsLineOf Begin at = Unit {0}
IsLineOf Wait at = Unit {0}

-- a script ends well here
abbrev pub IsGoodEnd : End → Type 0
IsGoodEnd AtEnd = Unit {0}
IsGoodEnd AtQuit = Unit {0}
IsGoodEnd (AtBad line) = ⊥

-- the command that stands next in what the reader had and what it took, or that the script ends well there
abbrev pub ReadsCommand : Reader → List ℕ → Reader → Option Command → Type 0
ReadsCommand before more after (Some command) = (line : ℕ) × IsLineOf command line
    × (script.next_command after.ended before.line (before.unused ++ more) ≡ One (command_of command) line after.line after.unused)
ReadsCommand before more after None = (end : End) × IsGoodEnd end
    × (script.next_command after.ended before.line (before.unused ++ more) ≡ No end)
