-- How the line that begins a command is spelled, without its LF, and how a command is (docs/script.md, Form).
use Rattle.std.specs.Prelude.{◌≤◌, ◌+◌, ◌^◌, ℕ, List, ◌++◌, length, codes}
use Rattle.std.specs.Fmt.{decimal}
use Rattle.hack_base.specs.Script.{IsFileName, newline, space}
use Rattle.script_text.specs.Heads.{Head, File, Drop, Check, Begin, Wait, Quit}
use Rattle.script_text.specs.Script as script
use Rattle.script_text.specs.Script.{Command, newlines}

-- ---- heads

-- a file's name, and at most 1 MiB of text
abbrev pub IsWithinLimits : Head → Type 0
IsWithinLimits (File name len) = IsFileName name × (len ≤ 2 ^ 20)
IsWithinLimits (Drop name) = IsFileName name
IsWithinLimits Check = Unit {0}
IsWithinLimits Begin = Unit {0}
IsWithinLimits Wait = Unit {0}
IsWithinLimits Quit = Unit {0}

-- words one space apart, and the length in decimal digits
abbrev pub spelling : Head → List ℕ
spelling (File name len) = codes "file " ++ name ++ space ++ decimal len
spelling (Drop name) = codes "drop " ++ name
spelling Check = codes "check"
spelling Begin = codes "begin"
spelling Wait = codes "wait"
spelling Quit = codes "quit"

-- ---- commands

-- the limits of its head
abbrev pub IsWithin : Command → Type 0
IsWithin (script.File name body) = IsWithinLimits (File name (length body))
IsWithin (script.Drop name) = IsWithinLimits (Drop name)
IsWithin script.Check = Unit {0}
IsWithin script.Begin = Unit {0}
IsWithin script.Wait = Unit {0}

-- the line that begins it and an LF, and behind that of a `file` its text and an LF
abbrev pub command_spelling : Command → List ℕ
command_spelling (script.File name body) = spelling (File name (length body)) ++ newline ++ body ++ newline
command_spelling (script.Drop name) = spelling (Drop name) ++ newline
command_spelling script.Check = spelling Check ++ newline
command_spelling script.Begin = spelling Begin ++ newline
command_spelling script.Wait = spelling Wait ++ newline

-- how many lines that is
abbrev pub lines_of : Command → ℕ
lines_of (script.File name body) = 2 + newlines body
lines_of (script.Drop name) = 1
lines_of script.Check = 1
lines_of script.Begin = 1
lines_of script.Wait = 1
