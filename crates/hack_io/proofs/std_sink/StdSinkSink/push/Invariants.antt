use Rattle.std.proofs.Common.{◌≡◌, ℕ, ◌≤◌, length, take, drop}
use Rattle.std.specs.Io.KnownBytes.{Appends}
use Rattle.hack_io.proofs.std_sink.StdSinkSink.push.Given as goal

abbrev pub invariant-loop-rest : goal.invariant-loop-rest
invariant-loop-rest g l = record {
  taken : (n : ℕ) × (n ≤ length l.piece) × (l.rest ≡ drop n l.piece)
      × Appends (g.W.Write.contents l.fn.self.writer) (g.W.Write.contents l.self.writer) (take n l.piece);
  faults : l.self.faults ≡ l.fn.self.faults;
}

abbrev pub decreases-loop-rest : goal.decreases-loop-rest
decreases-loop-rest g l = length l.rest
