use Rattle.std.proofs.Common.{◌≡◌, ◌+◌, ◌≤◌, drop}
use Rattle.script_text.specs.Script.{newlines}
use Rattle.script_text.proofs.reader.count_newlines.Given as goal

abbrev pub invariant-loop-byte : goal.invariant-loop-byte
invariant-loop-byte l = record {
  count : l.count + newlines (drop l.byte-index l.bytes) ≡ newlines l.bytes;
  few : l.count ≤ l.byte-index;
}
