use Rattle.std.proofs.Common.{◌≡◌, ◌≤◌, ◌+◌, drop}
use Rattle.hack_types.specs.Places.{behind_all}
use Rattle.hack_types.proofs.place.Place.behind.Given as goal

abbrev pub invariant-loop-byte : goal.invariant-loop-byte
invariant-loop-byte l = record {
  place : behind_all l.place (drop l.byte-index l.bytes) ≡ behind_all l.fn.self l.bytes;
  line : l.place.line ≤ l.fn.self.line + l.byte-index;
  column : l.place.column ≤ l.fn.self.column + l.byte-index;
}
