-- How a status is told to whoever ran the program (docs/script.md, Statuses).
use Rattle.std.specs.Prelude.{ℕ, List, [], ◌++◌, codes}
use Rattle.std.specs.Fmt.{decimal}
use Rattle.hack_serve.specs.declared.status.Status.{Status}
use Rattle.hack_serve.specs.declared.status.Status.TheVariants.{Done, Usage, BadScript, ReadFault, WriteFault, TooLong, NotBuilt, NoMemory}

-- the number that the program ends with
abbrev pub number_of : Status → ℕ
number_of Done = 0
number_of Usage = 2
number_of (BadScript line) = 3
number_of ReadFault = 4
number_of WriteFault = 5
number_of TooLong = 9
number_of NotBuilt = 10
number_of NoMemory = 71

-- what the program says of it on standard error, without the LF behind it; of `Done` nothing
abbrev pub text_of : Status → List ℕ
text_of Done = []
text_of Usage = codes "usage: hack_server [--workers N] [--slots N] [--heap-words N] [--edges N] [--json] [--generate N [--seed N]]"
text_of (BadScript line) = codes "bad script at line " ++ decimal line
text_of ReadFault = codes "read fault"
text_of WriteFault = codes "write fault"
text_of TooLong = codes "script too long"
text_of NotBuilt = codes "not built"
text_of NoMemory = codes "no memory"
