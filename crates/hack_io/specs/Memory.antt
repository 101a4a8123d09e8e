-- Sources and sinks in memory, by what callers see of them.
use Rattle.std.specs.Prelude.{◌+◌, ◌-◌, ◌^◌, ℕ, List, min, drop}
use Rattle.hack_io.specs.declared.memory_source.MemorySource.{MemorySource}
use Rattle.hack_io.specs.declared.memory_sink.MemorySink.{MemorySink}

-- the number of the call after so many; it stays at 2^64 - 1
abbrev pub next_call : ℕ → ℕ
next_call calls = min (calls + 1) (2 ^ 64 - 1)

-- the bytes to come
abbrev pub bytes_left : MemorySource → List ℕ
bytes_left source = drop source.at source.bytes.items

-- the most that one pull gives
abbrev pub piece_len : MemorySource → ℕ
piece_len source = source.piece

-- the number of the next pull, from 1
abbrev pub next_pull : MemorySource → ℕ
next_pull source = next_call source.calls

-- the numbers of the pulls that fail
abbrev pub failing_pulls : MemorySource → List ℕ
failing_pulls source = source.fail.items

-- how many pulls have failed
abbrev pub pull_faults : MemorySource → ℕ
pull_faults source = source.faults

-- what was written
abbrev pub bytes_written : MemorySink → List ℕ
bytes_written sink = sink.bytes.items

-- how many bytes it holds at most
abbrev pub reserved_len : MemorySink → ℕ
reserved_len sink = sink.room

-- how many bytes of a piece a failing push appends at most
abbrev pub kept_len : MemorySink → ℕ
kept_len sink = sink.keep

-- the number of the next push, from 1
abbrev pub next_push : MemorySink → ℕ
next_push sink = next_call sink.calls

-- the numbers of the pushes that fail
abbrev pub failing_pushes : MemorySink → List ℕ
failing_pushes sink = sink.fail.items

-- how many pushes have failed
abbrev pub push_faults : MemorySink → ℕ
push_faults sink = sink.faults
