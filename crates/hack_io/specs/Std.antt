-- Sources and sinks over std, by what callers see of them.
use Rattle.std.specs.Prelude.{ℕ}
use Rattle.hack_io.specs.declared.std_source.StdSource.{StdSource}
use Rattle.hack_io.specs.declared.std_sink.StdSink.{StdSink}

-- the reader
abbrev pub reader_of : {R : Type 0} → StdSource R → R
reader_of source = source.reader

-- how many reads have failed
abbrev pub reader_faults : {R : Type 0} → StdSource R → ℕ
reader_faults source = source.faults

-- the writer
abbrev pub writer_of : {W : Type 0} → StdSink W → W
writer_of sink = sink.writer

-- how many writes have failed
abbrev pub writer_faults : {W : Type 0} → StdSink W → ℕ
writer_faults sink = sink.faults
