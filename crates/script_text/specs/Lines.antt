-- The head of a line as the code has it, its name borrowed from the line.
use Rattle.std.specs.Prelude.{ℕ, List, Option, Some, None, take}
use Rattle.script_text.specs.Heads as heads
use Rattle.script_text.specs.declared.line.LineHead.{LineHead}
use Rattle.script_text.specs.declared.line.LineHead.TheVariants as line
use Rattle.script_text.specs.Script.{last_head}

abbrev pub head_view : LineHead → heads.Head
head_view (line.File name len) = heads.File name.now len
head_view (line.Drop name) = heads.Drop name.now
head_view line.Check = heads.Check
head_view line.Begin = heads.Begin
head_view line.Wait = heads.Wait
head_view line.Quit = heads.Quit

-- the head in the line that an LF at this index ends, or without an index in all the bytes
abbrev pub head_found : List ℕ → Option ℕ → Option heads.Head
head_found bytes (Some at) = heads.head_of_line (take at bytes)
head_found bytes None = last_head bytes
